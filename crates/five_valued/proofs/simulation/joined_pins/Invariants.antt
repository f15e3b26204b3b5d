use Rattle.std.proofs.Common.{◌≡◌, map, take}
use Rattle.five_valued.specs.FiveValues.{five_at, joined_five}
use Rattle.five_valued.proofs.simulation.joined_pins.Given as goal

-- what the operation makes of the pins before this one
abbrev pub invariant-loop-pin : goal.invariant-loop-pin
invariant-loop-pin l = l.joined ≡ joined_five l.op (map (λ pin. five_at l.values pin.0) (take l.pin-index l.pins))
