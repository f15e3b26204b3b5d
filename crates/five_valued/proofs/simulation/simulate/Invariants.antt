use Rattle.std.proofs.Common.{take}
use Rattle.netlist.specs.Circuit.{kind_at}
use Rattle.logic_values.proofs.RankPass.{HasValues}
use Rattle.five_valued.specs.FiveValues.{five_at, gate_five}
use Rattle.five_valued.proofs.simulation.simulate.Given as goal

-- the sources and the gates before this one have their values
abbrev pub invariant-loop-gate : goal.invariant-loop-gate
invariant-loop-gate l =
    HasValues l.net (five_at l.partial) (λ gate values. gate_five (kind_at l.net gate) values)
    (take l.gate-index l.gate-items) (five_at l.out)
