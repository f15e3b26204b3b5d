use Rattle.std.proofs.Common.{◌≡◌, true, map, take}
use Rattle.netlist.specs.Values.{parity}
use Rattle.netlist.specs.Steadiness.{is_known_as}
use Rattle.logic_values.specs.Known.{known_at}
use Rattle.logic_values.proofs.kleene.parity_of_ones.Given as goal

-- the parity of the ones at the pins before this one
abbrev pub invariant-loop-pin : goal.invariant-loop-pin
invariant-loop-pin l = l.odd ≡ parity (map (λ pin. is_known_as true (known_at l.values pin.0)) (take l.pin-index l.pins))
