-- The lines of a path are in the transitive fan-in of its end, and so are the lines that the pins of its gates read.
use Rattle.std.proofs.Common.{ℕ, ◌<◌, List, [], ◌∷◌, length, get_or}
use Rattle.std.proofs.lemmas.Option.{slice_get-get_or}
use Rattle.pd_base.specs.declared.ids.LineId.{LineId}
use Rattle.pd_base.specs.declared.ids.PinRef.{PinRef}
use Rattle.netlist.specs.Circuit.{Circuit, gate_count, gate_line, line_count, pins_at}
use Rattle.netlist.specs.Lawful.{ReadsLines}
use Rattle.netlist.specs.Pins.{IsInFanIn}
use Rattle.netlist.specs.Pins.IsInFanIn.{end_itself, read_by_pin}
use Rattle.netlist.specs.Paths.{Connects, line_after}
use Rattle.netlist.proofs.Evaluation.{all_at_place}

module _ (c : Circuit) where
  -- a line from which steps connect is in the fan-in of the line to which they lead
  pub leads_in_fan_in : (line : ℕ) (steps : List PinRef) → Connects c line steps → IsInFanIn c (line_after c line steps) line
  leads_in_fan_in line [] connects = end_itself
  leads_in_fan_in line (step ∷ steps) connects =
      read_by_pin step line connects.0 (leads_in_fan_in (gate_line c step.gate.0) steps connects.1)

  module _ (end : ℕ) where
    -- what a pin reads is in the fan-in of an end if the gate's line is
    pub pin_in_fan_in : (gate : ℕ) → gate < gate_count c → IsInFanIn c end (gate_line c gate)
        → (pin : ℕ) (d : LineId) → pin < length (pins_at c gate) → IsInFanIn c end (get_or (pins_at c gate) pin d).0
    pin_in_fan_in gate within further pin d inside =
        read_by_pin (record { gate = record { 0 = gate }; pin = pin }) (get_or (pins_at c gate) pin d).0
        (record { in_circuit = within; reads = slice_get-get_or (pins_at c gate) pin d inside }) further

    -- the fan-in of a line of the circuit has lines of the circuit alone
    pub fan_in_in_circuit : ReadsLines c → end < line_count c → (line : ℕ) → IsInFanIn c end line → line < line_count c
    fan_in_in_circuit reads within _ end_itself = within
    fan_in_in_circuit reads within _ (read_by_pin pin line on further) =
        all_at_place (λ (l : LineId). l.0 < line_count c) (pins_at c pin.gate.0) pin.pin (record { 0 = line })
        (reads pin.gate.0 on.in_circuit) on.reads
