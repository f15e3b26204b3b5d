-- Steps of a path, one at a time: what is asked of the steps from a line on is asked of the first one and of those behind it.
use Rattle.std.proofs.Common.{◌≡◌, ℕ, ◌+◌, ◌<◌, ◌↔◌, List, [], ◌∷◌, drop, length, get_or, Some, sym, ap, subst, ◌∙◌}
use Rattle.std.specs.List.{All}
use Rattle.std.proofs.lemmas.List.{drop_more}
use Rattle.std.proofs.lemmas.List.Elements.{All-cons, All-nil}
use Rattle.std.proofs.lemmas.Option.{slice_get-get_or, get_or_from_slice_get}
use Rattle.pd_base.specs.declared.ids.LineId.{LineId}
use Rattle.pd_base.specs.declared.ids.PinRef.{PinRef}
use Rattle.netlist.specs.Circuit.{Circuit, gate_line, pins_at}
use Rattle.netlist.specs.Pins.{IsPin, IsPinOn}
use Rattle.netlist.specs.Paths.{Connects, line_after}
use Rattle.netlist.proofs.PinRow.{pin_on_line}

-- what is read where there is no step
abbrev pub no_step : PinRef
no_step = record { gate = record { 0 = 0 }; pin = 0 }

-- what is read where there is no pin
abbrev no_line : LineId
no_line = record { 0 = 0 }

-- the steps from one on are that one and those behind it
pub steps_from : (steps : List PinRef) (place : ℕ) → place < length steps
    → drop place steps ≡ get_or steps place no_step ∷ drop (place + 1) steps
steps_from steps place within = drop_more steps place no_step within

-- a line by its number
line_id : (line : LineId) (number : ℕ) → line.0 ≡ number → line ≡ record { 0 = number }
line_id line number same = λ i. record { 0 = same i }

module _ (c : Circuit) where
  -- steps that connect are pins of the circuit
  pub connected_pins : (line : ℕ) (steps : List PinRef) → Connects c line steps → All (IsPin c) steps
  connected_pins line [] connects = All-nil (IsPin c)
  connected_pins line (step ∷ steps) connects =
      All-cons (IsPin c) step steps (pin_on_line c step line connects.0)
      (connected_pins (gate_line c step.gate.0) steps connects.1)

  -- a pin of the circuit whose place has this line is on it
  pub pin_on : (step : PinRef) (line : ℕ) (pins : List LineId) → IsPin c step → pins ≡ pins_at c step.gate.0
      → (get_or pins step.pin no_line).0 ≡ line → IsPinOn c step line
  pin_on step line pins is own reads = record {
    in_circuit = is.in_circuit;
    reads = slice_get-get_or (pins_at c step.gate.0) step.pin no_line is.in_gate
        ∙ ap Some (ap (λ lines. get_or lines step.pin no_line) (sym own) ∙ line_id (get_or pins step.pin no_line) line reads);
  }

  -- and a pin on a line has it at its place
  pub on_reads : (step : PinRef) (line : ℕ) (pins : List LineId) → pins ≡ pins_at c step.gate.0 → IsPinOn c step line
      → (get_or pins step.pin no_line).0 ≡ line
  on_reads step line pins own on =
      ap (λ lines. (get_or lines step.pin no_line).0) own
      ∙ ap (λ (l : LineId). l.0) (get_or_from_slice_get (pins_at c step.gate.0) step.pin (record { 0 = line }) no_line on.reads)

  -- whether steps connect from a line, and where they lead to, is decided by other steps from another line
  pub record IsLeft (first : ℕ) (steps : List PinRef) (line : ℕ) (rest : List PinRef) : Type 0 where
    pub connects : Connects c first steps ↔ Connects c line rest
    pub last : line_after c first steps ≡ line_after c line rest

  module _ (steps : List PinRef) (place : ℕ) where
    -- the step at this place
    abbrev step : PinRef
    step = get_or steps place no_step

    -- where the steps from one on connect, it is on the line, and those behind it connect
    pub connects_from : (line : ℕ) → place < length steps → Connects c line (drop place steps)
        → IsPinOn c step line × Connects c (gate_line c step.gate.0) (drop (place + 1) steps)
    connects_from line within connects = subst (Connects c line) (steps_from steps place within) connects

    -- with a step on the line, the steps behind it decide
    pub left_more : (first : ℕ) (all : List PinRef) (line : ℕ) → place < length steps → IsPinOn c step line
        → IsLeft first all line (drop place steps) → IsLeft first all (gate_line c step.gate.0) (drop (place + 1) steps)
    left_more first all line within on left = record {
      connects = (
        λ connects. (connects_from line within (left.connects.0 connects)).1,
        λ rest. left.connects.1 (subst (Connects c line) (sym (steps_from steps place within)) (on, rest)),
      );
      last = left.last ∙ ap (line_after c line) (steps_from steps place within);
    }
