-- The pins of a circuit, and which of them read a line: the fan-out of a line, and its transitive fan-in (as their field speaks of
-- them).
use Rattle.std.specs.Prelude.{◌≡◌, ℕ, ◌+◌, ◌<◌, List, length, sum_by, take, slice_get, slice_index_or, [], Some, All, AllPairs, Contains}
use Rattle.pd_base.specs.declared.ids.PinRef.{PinRef}
use Rattle.netlist.specs.Circuit.{Circuit, gate_count, gate_line, line_count, pins_at}

-- the pin is one of a gate of the circuit
pub record IsPin (c : Circuit) (pin : PinRef) : Type 0 where
  pub in_circuit : pin.gate.0 < gate_count c
  pub in_gate : pin.pin < length (pins_at c pin.gate.0)

-- the pin is one of a gate, and reads this line
pub record IsPinOn (c : Circuit) (pin : PinRef) (line : ℕ) : Type 0 where
  pub in_circuit : pin.gate.0 < gate_count c
  pub reads : slice_get (pins_at c pin.gate.0) pin.pin ≡ Some (record { 0 = line })

-- the first pin is of a lesser gate, or a lesser pin of the same gate
pub data IsPinBefore (a b : PinRef) : Type 0 where
  lesser_gate : a.gate.0 < b.gate.0 → IsPinBefore a b
  lesser_pin : a.gate ≡ b.gate → a.pin < b.pin → IsPinBefore a b

-- the fan-out of a line: the pins on it and no other pins, by gate and then by pin
pub record IsFanout (c : Circuit) (line : ℕ) (pins : List PinRef) : Type 0 where
  pub rising : AllPairs IsPinBefore pins
  pub on_line : All (λ pin. IsPinOn c pin line) pins
  pub whole : (pin : PinRef) → IsPinOn c pin line → Contains pins pin

-- the fan-outs of all lines, by line number
pub record AreFanouts (c : Circuit) (fanouts : List (List PinRef)) : Type 0 where
  pub one_each : length fanouts ≡ line_count c
  pub each : (line : ℕ) → line < line_count c → IsFanout c line (slice_index_or fanouts line [])

-- The line is in the transitive fan-in of an end: it is the end itself, or a pin reads it whose gate's line is in the
-- transitive fan-in.
pub data IsInFanIn (c : Circuit) (end : ℕ) : ℕ → Type 0 where
  end_itself : IsInFanIn c end end
  read_by_pin : (pin : PinRef) (line : ℕ) → IsPinOn c pin line → IsInFanIn c end (gate_line c pin.gate.0) → IsInFanIn c end line

-- the number of pins of all gates
abbrev pub pin_total : Circuit → ℕ
pin_total c = sum_by (λ g. length g.pins) c.gates

-- how many pins the gates before this one have
abbrev pub pins_before : Circuit → ℕ → ℕ
pins_before c gate = sum_by (λ g. length g.pins) (take gate c.gates)

-- the place of a pin among all pins: gate by gate, and at each gate from pin 0 on
abbrev pub pin_place_in : Circuit → PinRef → ℕ
pin_place_in c pin = pins_before c pin.gate.0 + pin.pin
