use Rattle.std.proofs.Common.{◌≡◌, length, map, take}
use Rattle.netlist.specs.Greatest.{greatest}
use Rattle.net_builder.proofs.measures.longest_of.Given as goal

abbrev pub invariant-loop-line : goal.invariant-loop-line
invariant-loop-line l = l.longest ≡ greatest (map length (take l.line l.names))
