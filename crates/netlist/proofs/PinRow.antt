-- Pins of a circuit in one row: each gate's pins stand behind those of the gates before it, all within the number of pins,
-- and no two at one place.
use Rattle.std.proofs.Common.{◌≡◌, ◌≢◌, ⊎_elim, ℕ, ◌+◌, ◌<◌, ◌≤◌, List, length, take, sum_by, ap, subst, arith}
use Rattle.std.proofs.lemmas.Bool.{cases_lt}
use Rattle.std.proofs.lemmas.List.{take-take}
use Rattle.std.proofs.lemmas.List.Sums.{sum_by_more, sum_by_more_le, sum_by-take-le}
use Rattle.std.proofs.lemmas.Option.{slice_get_within}
use Rattle.pd_base.specs.declared.ids.PinRef.{PinRef}
use Rattle.netlist.specs.Circuit.{Circuit, Gate, gate_count, no_gate, pins_at}
use Rattle.netlist.specs.Pins.{IsPin, IsPinOn, pins_before, pin_place_in, pin_total}

-- a pin that reads a line is one of the circuit's
pub pin_on_line : (c : Circuit) (pin : PinRef) (line : ℕ) → IsPinOn c pin line → IsPin c pin
pin_on_line c pin line on = record {
  in_circuit = on.in_circuit;
  in_gate = slice_get_within (pins_at c pin.gate.0) pin.pin (record { 0 = line }) on.reads;
}

-- the pins of a gate end within the row
pub pins_within : (c : Circuit) (gate : ℕ) → gate < gate_count c → pins_before c gate + length (pins_at c gate) ≤ pin_total c
pins_within c gate within = sum_by_more_le (λ (g : Gate). length g.pins) c.gates gate no_gate within

-- the pins before the next gate are those before this one and its own
pub pins_before_next : (c : Circuit) (gate : ℕ) → gate < gate_count c
    → pins_before c (gate + 1) ≡ pins_before c gate + length (pins_at c gate)
pins_before_next c gate within = sum_by_more (λ (g : Gate). length g.pins) c.gates gate no_gate within

-- the pins of a gate end before those of a later gate begin
pub pins_apart : (c : Circuit) (gate later : ℕ) → gate < later → later < gate_count c
    → pins_before c gate + length (pins_at c gate) ≤ pins_before c later
pins_apart c gate later less within =
    let next = pins_before_next c gate (omega arith) in
    let fewer : pins_before c (gate + 1) ≤ pins_before c later =
    subst (λ (gates : List Gate). sum_by (λ g. length g.pins) gates ≤ pins_before c later)
    (take-take (gate + 1) later c.gates (omega arith))
    (sum_by-take-le (λ (g : Gate). length g.pins) (take later c.gates) (gate + 1)) in
    omega arith

module _ (c : Circuit) where
  -- the place of a pin is within the row
  pub place_within : (pin : PinRef) → IsPin c pin → pin_place_in c pin < pin_total c
  place_within pin is = omega (arith, pins_within c pin.gate.0 is.in_circuit, is.in_gate)

  -- different pins have different places
  pub places_differ : (pin other : PinRef) → IsPin c pin → IsPin c other → other ≢ pin
      → pin_place_in c other ≢ pin_place_in c pin
  places_differ pin other is is_other differs same =
      ⊎_elim
      (λ less. let apart = pins_apart c other.gate.0 pin.gate.0 less is.in_circuit in absurd (omega (arith, is_other.in_gate)))
      (λ from. ⊎_elim
      (λ greater. let apart = pins_apart c pin.gate.0 other.gate.0 greater is_other.in_circuit in absurd (omega (arith, is.in_gate)))
      (λ upto.
      let gate : other.gate.0 ≡ pin.gate.0 = omega arith in
      let first : pins_before c other.gate.0 ≡ pins_before c pin.gate.0 = ap (pins_before c) gate in
      let number : other.pin ≡ pin.pin = omega arith in
      differs (λ i. record { gate = record { 0 = gate i }; pin = number i }))
      (cases_lt pin.gate.0 other.gate.0))
      (cases_lt other.gate.0 pin.gate.0)
