use Rattle.std.proofs.Common.{◌≡◌, take}
use Rattle.netlist.specs.Greatest.{greatest}
use Rattle.net_builder.proofs.measures.greatest_of.Given as goal

abbrev pub invariant-loop-number : goal.invariant-loop-number
invariant-loop-number l =
    l.most ≡ greatest (take l.number-index l.numbers)
