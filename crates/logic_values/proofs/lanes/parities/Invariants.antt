use Rattle.std.proofs.Common.{◌≡◌, ℕ, ◌<◌, map, take}
use Rattle.netlist.specs.Values.{parity}
use Rattle.logic_values.specs.Lanes.{lane_of, lane_bit}
use Rattle.logic_values.proofs.lanes.parities.Given as goal

-- in each lane, the parity of the pins before this one
abbrev pub invariant-loop-pin : goal.invariant-loop-pin
invariant-loop-pin l =
    (lane : ℕ) → lane < 64
    → lane_of l.odd lane ≡ parity (map (λ pin. lane_bit l.words lane pin.0) (take l.pin-index l.pins))
