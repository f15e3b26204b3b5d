-- Which lines the pins of a circuit's gates read: all that its fan-outs, its levels and its loops depend on. Names and kinds
-- play no part (this project's own).
use Rattle.std.specs.Prelude.{◌≡◌, ℕ, ◌<◌, ◌≤◌, ◌==◌, List, [], map, length, sum_by, slice_index_or, All, if◌then◌else◌}
use Rattle.pd_base.specs.declared.ids.LineId.{LineId}
use Rattle.pd_base.specs.declared.ids.PinRef.{PinRef}
use Rattle.netlist.specs.declared.limits.TheConstants.{MOST_LINES, MOST_PINS}
use Rattle.netlist.specs.Circuit.{Circuit, line_count}

-- the circuit has so many lines, and these are the lines that its gates' pins read
pub record IsWired (c : Circuit) (lines : ℕ) (pins : List (List LineId)) : Type 0 where
  pub line_total : line_count c ≡ lines
  pub gate_pins : map (λ gate. gate.pins) c.gates ≡ pins

-- the pins read some of so many lines, of which each gate has one, within the limits of a circuit
pub record FitsLines (lines : ℕ) (pins : List (List LineId)) : Type 0 where
  pub reads : All (All (λ line. line.0 < lines)) pins
  pub few_gates : length pins ≤ lines
  pub few_lines : lines ≤ MOST_LINES
  pub few_pins : sum_by length pins ≤ MOST_PINS

-- how many of these pins are the gate's
abbrev pub times_named : ℕ → List PinRef → ℕ
times_named gate pins = sum_by (λ pin. if pin.gate.0 == gate then 1 else 0) pins

-- how many of these pins read the line
abbrev pub times_read : ℕ → List LineId → ℕ
times_read line pins = sum_by (λ read. if read.0 == line then 1 else 0) pins

-- each line has a list of pins, which names each gate as often as the gate reads the line
pub record NamesReaders (lines : ℕ) (pins : List (List LineId)) (fanouts : List (List PinRef)) : Type 0 where
  pub one_each : length fanouts ≡ lines
  pub gates : All (All (λ pin. pin.gate.0 < length pins)) fanouts
  pub as_often : (line gate : ℕ) → line < lines → gate < length pins
      → times_named gate (slice_index_or fanouts line []) ≡ times_read line (slice_index_or pins gate [])
