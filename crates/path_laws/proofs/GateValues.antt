-- In a circuit without loops a gate's value under a vector, and its wave, are its function of the values at its pins.
use Rattle.std.proofs.Common.{◌≡◌, ℕ, ◌<◌, ℤ, Bool, List, ap, ◌∙◌}
use Rattle.pd_base.specs.Pair.{Vectors}
use Rattle.netlist.specs.Circuit.{Circuit, source_count, gate_count, gate_line, kind_at, pins_at}
use Rattle.netlist.specs.Lawful.{IsCircuit}
use Rattle.netlist.specs.Values.{bit_of, gate_value, value}
use Rattle.netlist.specs.Waves.{Wave, PinCopy, source_wave, pin_values, wave_under}
use Rattle.netlist.proofs.Evaluation.{value_at_source, value_at_gate}
use Rattle.path_laws.proofs.PinPlaces.{at_pins, copy_value, map-is_at_pins, pin_values-is_at_pins}

-- a source's value is its bit
pub value_of_source : (c : Circuit) (vector : List Bool) (line : ℕ) → line < source_count c
    → value c vector line ≡ bit_of vector line
value_of_source c vector line source =
    value_at_source c (bit_of vector) (λ gate values. gate_value (kind_at c gate) values) line source

-- a gate's value is its function of the values of its pins' lines
pub value_of_gate : (c : Circuit) → IsCircuit c → (vector : List Bool) (gate : ℕ) → gate < gate_count c
    → value c vector (gate_line c gate)
    ≡ gate_value (kind_at c gate) (at_pins (λ pin line. value c vector line.0) (pins_at c gate))
value_of_gate c is vector gate within =
    value_at_gate c (bit_of vector) (λ gate values. gate_value (kind_at c gate) values)
    is.reads_lines is.loop_free gate within
    ∙ ap (gate_value (kind_at c gate)) (map-is_at_pins (value c vector) (pins_at c gate))

module _ (copy : PinCopy) (c : Circuit) where
  -- what a gate makes of the waves of its pins' lines
  abbrev gate_wave : ℕ → List Wave → Wave
  gate_wave gate waves time = gate_value (kind_at c gate) (pin_values copy gate 0 waves time)

  -- a source's wave changes at time 0
  pub wave_of_source : (pair : Vectors) (line : ℕ) → line < source_count c → (time : ℤ)
      → wave_under copy c pair line time ≡ source_wave pair line time
  wave_of_source pair line source time =
      ap (λ (wave : Wave). wave time) (value_at_source c (source_wave pair) gate_wave line source)

  -- a gate's wave has at each time its function of what its pins show then
  pub wave_of_gate : IsCircuit c → (pair : Vectors) (gate : ℕ) → gate < gate_count c → (time : ℤ)
      → wave_under copy c pair (gate_line c gate) time
      ≡ gate_value (kind_at c gate) (at_pins (copy_value copy gate (wave_under copy c pair) time) (pins_at c gate))
  wave_of_gate is pair gate within time =
      ap (λ (wave : Wave). wave time) (value_at_gate c (source_wave pair) gate_wave is.reads_lines is.loop_free gate within)
      ∙ ap (gate_value (kind_at c gate)) (pin_values-is_at_pins copy gate (wave_under copy c pair) time (pins_at c gate))
