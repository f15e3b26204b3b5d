use Rattle.std.proofs.Common.{◌≡◌, ℕ, ◌<◌, Bool, List, length, take}
use Rattle.netlist.specs.Circuit.{kind_at, source_count}
use Rattle.netlist.specs.Values.{bit_of, gate_value}
use Rattle.logic_values.specs.Lanes.{lane_bit, IsInLane}
use Rattle.logic_values.proofs.RankPass.{HasValues}
use Rattle.logic_values.proofs.lanes.evaluate_lanes.Given as goal

-- in each lane, the sources and the gates before this one have their values
abbrev pub invariant-loop-gate : goal.invariant-loop-gate
invariant-loop-gate l =
    (lane : ℕ) (vector : List Bool) → lane < 64 → length vector ≡ source_count l.net → IsInLane l.initial.words lane vector
    → HasValues l.net (bit_of vector) (λ gate values. gate_value (kind_at l.net gate) values) (take l.gate-index l.gate-items)
    (lane_bit l.words lane)
