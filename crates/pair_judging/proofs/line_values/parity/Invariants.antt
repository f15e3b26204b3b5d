use Rattle.std.proofs.Common.{◌≡◌, map, take}
use Rattle.netlist.specs.Values.{parity}
use Rattle.logic_values.specs.Known.{bit_at}
use Rattle.pair_judging.proofs.line_values.parity.Given as goal

-- the parity of the pins before this one
abbrev pub invariant-loop-pin : goal.invariant-loop-pin
invariant-loop-pin l = l.odd ≡ parity (map (λ pin. bit_at l.values pin.0) (take l.pin-index l.pins))
