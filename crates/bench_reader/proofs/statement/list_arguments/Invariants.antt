use Rattle.std.proofs.Common.{◌≡◌}
use Rattle.netlist.specs.NameTexts.{bytes_of}
use Rattle.bench_reader.specs.Statements.{names_of}
use Rattle.bench_reader.specs.Seen.{names_left, tokens_left, tokens_seen}
use Rattle.bench_reader.proofs.Arguments.{behind}
use Rattle.bench_reader.proofs.statement.list_arguments.Given as goal

abbrev pub invariant-loop-left : goal.invariant-loop-left
invariant-loop-left l = names_of (tokens_seen l.tokens) ≡ behind (bytes_of l.arguments.items) (names_left l.left)

abbrev pub decreases-loop-left : goal.decreases-loop-left
decreases-loop-left l = tokens_left l.left
