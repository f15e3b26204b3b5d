use Rattle.std.proofs.Common.{◌≡◌, ℕ, ◌<◌, not, take}
use Rattle.std.specs.List.{list_all, list_any}
use Rattle.netlist.specs.Steadiness.{is_known_as}
use Rattle.logic_values.specs.Lanes.{lane_of}
use Rattle.test_grade.specs.Lines.{known_lane}
use Rattle.test_grade.proofs.steady_lanes.controlled.Given as goal

-- in each lane, whether some pin before this one is steady at the controlling value, and whether all are at the other one
abbrev pub invariant-loop-pin : goal.invariant-loop-pin
invariant-loop-pin l = record {
  any : (lane : ℕ) → lane < 64 → lane_of l.some lane
      ≡ list_any (λ pin. is_known_as l.controlling (known_lane l.finals l.steadies lane pin.0)) (take l.pin-index l.pins);
  each : (lane : ℕ) → lane < 64 → lane_of l.all lane
      ≡ list_all (λ pin. is_known_as (not l.controlling) (known_lane l.finals l.steadies lane pin.0)) (take l.pin-index l.pins);
}
