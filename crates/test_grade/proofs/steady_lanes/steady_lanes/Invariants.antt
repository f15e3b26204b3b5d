use Rattle.std.proofs.Common.{ℕ, ◌<◌, take}
use Rattle.pd_base.specs.Pair.{Vectors}
use Rattle.netlist.specs.Circuit.{kind_at}
use Rattle.netlist.specs.Steadiness.{agreed_bit, known_gate_value}
use Rattle.netlist.specs.Values.{value}
use Rattle.logic_values.specs.Lanes.{lane_bit}
use Rattle.logic_values.proofs.RankPass.{HasValues}
use Rattle.test_grade.specs.Lines.{known_in, HasAgreements, HasFinals}
use Rattle.test_grade.proofs.steady_lanes.steady_lanes.Given as goal

-- in each lane, it is known of the sources and of the gates before this one whether they are steady
abbrev pub invariant-loop-gate : goal.invariant-loop-gate
invariant-loop-gate l =
    (lane : ℕ) (pair : Vectors) → lane < 64 → HasFinals l.net pair.second lane l.finals
    → HasAgreements l.net pair lane l.initial.steadies
    → HasValues l.net (agreed_bit pair) (λ gate values. known_gate_value (kind_at l.net gate) values) (take l.gate-index l.gate-items)
    (λ line. known_in (value l.net pair.second line) (lane_bit l.steadies lane line))
