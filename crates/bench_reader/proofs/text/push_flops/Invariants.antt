use Rattle.std.proofs.Common.{◌≡◌, ◌++◌, map, take}
use Rattle.bench_reader.specs.Canonical.{flop_statement, statements_text}
use Rattle.bench_reader.proofs.text.push_flops.Given as goal

abbrev pub invariant-loop-flop : goal.invariant-loop-flop
invariant-loop-flop l =
    l.text.items ≡ l.fn.text.items ++ statements_text (map (flop_statement l.net) (take l.flop-index l.flops))
