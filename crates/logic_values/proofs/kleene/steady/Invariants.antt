use Rattle.std.proofs.Common.{take}
use Rattle.netlist.specs.Circuit.{kind_at}
use Rattle.netlist.specs.Steadiness.{agreed_bit, known_gate_value}
use Rattle.logic_values.specs.Known.{known_at}
use Rattle.logic_values.proofs.RankPass.{HasValues}
use Rattle.logic_values.proofs.kleene.steady.Given as goal

-- the sources and the gates before this one have their steadiness
abbrev pub invariant-loop-gate : goal.invariant-loop-gate
invariant-loop-gate l =
    HasValues l.net (agreed_bit l.pair) (λ gate values. known_gate_value (kind_at l.net gate) values)
    (take l.gate-index l.gate-items) (known_at l.out)
