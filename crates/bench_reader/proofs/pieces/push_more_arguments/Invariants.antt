use Rattle.std.proofs.Common.{◌≡◌, ◌++◌, take}
use Rattle.bench_reader.specs.Canonical.{more_arguments, names_at}
use Rattle.bench_reader.proofs.pieces.push_more_arguments.Given as goal

abbrev pub invariant-loop-line : goal.invariant-loop-line
invariant-loop-line l =
    l.text.items ≡ l.fn.text.items ++ more_arguments (names_at l.net (take l.line-index l.pins))
