use Rattle.std.proofs.Common.{◌≡◌, ℕ, ◌<◌, map, take}
use Rattle.netlist.specs.Values.{any_true}
use Rattle.logic_values.specs.Lanes.{lane_of, lane_bit}
use Rattle.logic_values.proofs.lanes.any_ones.Given as goal

-- in each lane, whether some pin before this one is 1
abbrev pub invariant-loop-pin : goal.invariant-loop-pin
invariant-loop-pin l =
    (lane : ℕ) → lane < 64
    → lane_of l.any lane ≡ any_true (map (λ pin. lane_bit l.words lane pin.0) (take l.pin-index l.pins))
