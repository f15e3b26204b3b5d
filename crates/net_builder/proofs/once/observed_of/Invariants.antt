use Rattle.std.proofs.Common.{◌≡◌, ◌++◌, map, take}
use Rattle.net_builder.proofs.once.observed_of.Given as goal

abbrev pub invariant-loop-flop : goal.invariant-loop-flop
invariant-loop-flop l =
    l.lines.items ≡ l.outputs ++ map (λ flop. flop.1) (take l.flop-index l.flops)
