use Rattle.std.proofs.Common.{◌≡◌, ℕ, ◌<◌, map, take}
use Rattle.netlist.specs.Values.{all_true}
use Rattle.logic_values.specs.Lanes.{lane_of, lane_bit}
use Rattle.logic_values.proofs.lanes.all_ones.Given as goal

-- in each lane, whether all pins before this one are 1
abbrev pub invariant-loop-pin : goal.invariant-loop-pin
invariant-loop-pin l =
    (lane : ℕ) → lane < 64
    → lane_of l.all lane ≡ all_true (map (λ pin. lane_bit l.words lane pin.0) (take l.pin-index l.pins))
