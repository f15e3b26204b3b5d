use Rattle.std.proofs.Common.{◌≡◌, ℕ, ◌<◌, take}
use Rattle.std.specs.List.{list_all}
use Rattle.logic_values.specs.Lanes.{lane_of, lane_bit}
use Rattle.test_grade.proofs.steady_lanes.all_steady.Given as goal

-- in each lane, whether all pins before this one are steady
abbrev pub invariant-loop-pin : goal.invariant-loop-pin
invariant-loop-pin l =
    (lane : ℕ) → lane < 64 → lane_of l.all lane ≡ list_all (λ pin. lane_bit l.steadies lane pin.0) (take l.pin-index l.pins)
