-- The pins entered: how they grow and are taken back with the list, and that a gate is entered once.
use Rattle.std.proofs.Common.{◌≡◌, ◌≢◌, ℕ, zero, suc, ◌+◌, ◌-◌, ◌<◌, ◌≤◌, ◌==◌, false, List, [], ◌∷◌, ◌++◌, length, take, get_or, None, All, refl, sym, ap, ◌∙◌, subst, arith}
use Rattle.std.proofs.lemmas.Bool.{ne_eqb}
use Rattle.std.proofs.lemmas.List.Elements.{All-nil, All-cons}
use Rattle.std.proofs.lemmas.List.{length_push, take_more}
use Rattle.std.proofs.lemmas.Option.{slice_get_within}
use Rattle.pd_base.specs.declared.ids.PinRef.{PinRef}
use Rattle.pd_base.specs.declared.fault.Kind.{Kind}
use Rattle.netlist.specs.declared.kind.GateKind.{GateKind}
use Rattle.netlist.specs.declared.kind.GateKind.TheVariants.{And, Nand, Or, Nor, Xor, Xnor, Not, Buff}
use Rattle.netlist.specs.declared.limits.TheConstants.{MOST_FAN_IN}
use Rattle.netlist.specs.Circuit.{Circuit, line_count, gate_count, gate_line, kind_at, pins_at}
use Rattle.netlist.specs.Lawful.{IsCircuit, IsFanIn}
use Rattle.netlist.specs.Levels.{level, greatest_level}
use Rattle.netlist.specs.Pins.{IsPin, IsPinOn}
use Rattle.netlist.specs.Paths.{Connects, line_after}
use Rattle.netlist.proofs.PinRow.{pin_on_line}
use Rattle.path_laws.proofs.StepCounts.{step_raises, level_and_steps, steps_within_levels}
use Rattle.state_sets.specs.Hulls.{condition_at}
use Rattle.implication.specs.declared.assumption.Assumption.{Assumption}
use Rattle.implication.specs.declared.assumption.Assumption.TheVariants.{Entered, Assumed}
use Rattle.hulls.specs.Conditions.{Entered as Steps, IsEnteredOn}
use Rattle.implication.specs.Assumptions.{entered_pins}
use Rattle.implication.specs.Kept.{HasStepRoom, CanStep}

-- the pins of a longer list
pub entered_append : (xs ys : List Assumption) → entered_pins (xs ++ ys) ≡ entered_pins xs ++ entered_pins ys
entered_append [] ys = refl
entered_append (Entered pin ∷ xs) ys = ap (λ rest. pin ∷ rest) (entered_append xs ys)
entered_append (Assumed own set ∷ xs) ys = entered_append xs ys

-- the pins of the first entries are the first pins
pub entered_taken : (list : List Assumption) (mark : ℕ)
    → (few : ℕ) × (entered_pins (take mark list) ≡ take few (entered_pins list))
entered_taken [] zero = (0, refl)
entered_taken [] (suc mark) = (0, refl)
entered_taken (entry ∷ list) zero = (0, refl)
entered_taken (Entered pin ∷ list) (suc mark) =
    let rest = entered_taken list mark in (suc rest.0, ap (λ pins. pin ∷ pins) rest.1)
entered_taken (Assumed own set ∷ list) (suc mark) = entered_taken list mark

-- the last of a list of two or more is that of the rest
last_behind : (step next : PinRef) (steps : List PinRef) (else_ : PinRef)
    → get_or (step ∷ next ∷ steps) (length (step ∷ next ∷ steps) - 1) else_ ≡ get_or (next ∷ steps) (length (next ∷ steps) - 1) else_
last_behind step next steps else_ = grind arith

module _ (c : Circuit) where
  -- a pin on the last line goes on
  pub connects_more : (line : ℕ) (steps : List PinRef) (pin : PinRef) → Connects c line steps
      → IsPinOn c pin (line_after c line steps) → Connects c line (steps ++ pin ∷ [])
  connects_more line [] pin connects on = (on, tt)
  connects_more line (step ∷ steps) pin connects on =
      (connects.0, connects_more (gate_line c step.gate.0) steps pin connects.1 on)

  -- the last line is then the line of the pin's gate
  pub line_after_more : (line : ℕ) (steps : List PinRef) (pin : PinRef)
      → line_after c line (steps ++ pin ∷ []) ≡ gate_line c pin.gate.0
  line_after_more line [] pin = refl
  line_after_more line (step ∷ steps) pin = line_after_more (gate_line c step.gate.0) steps pin

  -- and the last of pins that connect is on the line before
  pub connects_last : (line : ℕ) (steps : List PinRef) (pin : PinRef) → Connects c line (steps ++ pin ∷ [])
      → IsPinOn c pin (line_after c line steps)
  connects_last line [] pin connects = connects.0
  connects_last line (step ∷ steps) pin connects = connects_last (gate_line c step.gate.0) steps pin connects.1

  -- pins that connect go through pins of the circuit
  pub pins_of : (line : ℕ) (steps : List PinRef) → Connects c line steps → All (IsPin c) steps
  pins_of line [] connects = All-nil (IsPin c)
  pins_of line (step ∷ steps) connects = All-cons (IsPin c) step steps
      (pin_on_line c step line connects.0)
      (pins_of (gate_line c step.gate.0) steps connects.1)

  -- the last of pins that connect is at a gate of the circuit, and they lead to the line of that gate
  pub last_gate : (line : ℕ) (steps : List PinRef) (else_ : PinRef) → Connects c line steps → 1 ≤ length steps
      → (get_or steps (length steps - 1) else_).gate.0 < gate_count c
  last_gate line [] else_ connects some = absurd (omega arith)
  last_gate line (step ∷ []) else_ connects some = connects.0.in_circuit
  last_gate line (step ∷ next ∷ steps) else_ connects some =
      let P : PinRef → Type 0 = λ s. s.gate.0 < gate_count c in
      subst P (sym (last_behind step next steps else_)) (last_gate (gate_line c step.gate.0) (next ∷ steps) else_ connects.1 (omega arith))

  pub last_line : (line : ℕ) (steps : List PinRef) (else_ : PinRef) → 1 ≤ length steps
      → gate_line c (get_or steps (length steps - 1) else_).gate.0 ≡ line_after c line steps
  last_line line [] else_ some = absurd (omega arith)
  last_line line (step ∷ []) else_ some = refl
  last_line line (step ∷ next ∷ steps) else_ some =
      ap (λ (s : PinRef). gate_line c s.gate.0) (last_behind step next steps else_)
      ∙ last_line (gate_line c step.gate.0) (next ∷ steps) else_ (omega arith)

  -- the first of the pins connect
  pub connects_taken : (line mark : ℕ) (list : List Assumption) → Connects c line (entered_pins list)
      → Connects c line (entered_pins (take mark list))
  connects_taken line zero [] connects = tt
  connects_taken line zero (entry ∷ list) connects = tt
  connects_taken line (suc mark) [] connects = tt
  connects_taken line (suc mark) (Entered pin ∷ list) connects =
      (connects.0, connects_taken (gate_line c pin.gate.0) mark list connects.1)
  connects_taken line (suc mark) (Assumed own set ∷ list) connects = connects_taken line mark list connects

  module _ (circuit : IsCircuit c) where
    -- no step before goes through a gate whose pin is on the last line
    pub not_entered : (kind : Kind) (line : ℕ) (steps : List PinRef) (pin : PinRef) → Connects c line steps
        → IsPinOn c pin (line_after c line steps) → condition_at kind steps pin.gate.0 ≡ None
    not_entered kind line [] pin connects on = refl
    not_entered kind line (step ∷ steps) pin connects on =
        let rises = level_and_steps c circuit (gate_line c step.gate.0) steps connects.1 in
        let above = step_raises c circuit (line_after c (gate_line c step.gate.0) steps) pin on in
        let other : step.gate.0 ≢ pin.gate.0 =
        λ same. let e = ap (λ gate. level c (gate_line c gate)) same in absurd (omega (arith, rises, above, e)) in
        let e : (step.gate.0 == pin.gate.0) ≡ false = ne_eqb step.gate.0 pin.gate.0 other in
        rw e (not_entered kind (gate_line c step.gate.0) steps pin connects.1 on)

    -- there is a level for one step more
    pub fewer_than_levels : (line : ℕ) (steps : List PinRef) (pin : PinRef) → line < line_count c → Connects c line steps
        → IsPinOn c pin (line_after c line steps) → length steps < greatest_level c
    fewer_than_levels line steps pin within connects on =
        let few = steps_within_levels c circuit line (steps ++ pin ∷ []) within (connects_more line steps pin connects on) in
        omega (arith, few, length_push steps pin)

-- a gate has at most so many pins
few_pins : (kind : GateKind) (count : ℕ) → IsFanIn kind count → count ≤ MOST_FAN_IN
few_pins And count fan_in = fan_in.few
few_pins Nand count fan_in = fan_in.few
few_pins Or count fan_in = fan_in.few
few_pins Nor count fan_in = fan_in.few
few_pins Xor count fan_in = fan_in.few
few_pins Xnor count fan_in = fan_in.few
few_pins Not count fan_in = omega (arith, fan_in)
few_pins Buff count fan_in = omega (arith, fan_in)

-- the pins up to a place
pub pins_up_to : (list : List Assumption) (place : ℕ) (else_ : Assumption) → place < length list → (entry : Assumption)
    → get_or list place else_ ≡ entry
    → entered_pins (take place list) ++ entered_pins (entry ∷ []) ≡ entered_pins (take (place + 1) list)
pins_up_to list place else_ inside entry is =
    sym (ap entered_pins (take_more list place else_ inside ∙ ap (λ e. take place list ++ e ∷ []) is)
    ∙ entered_append (take place list) (entry ∷ []))

module _ (c : Circuit) (circuit : IsCircuit c) (line : ℕ) (within : line < line_count c) (list : List Assumption)
    (connects : Connects c line (entered_pins list)) (place : ℕ) (else_ : Assumption) (inside : place < length list) where
  -- a pin at that place is on the line to which those before it lead
  goes_on : (pin : PinRef) → get_or list place else_ ≡ Entered pin → IsPinOn c pin (line_after c line (entered_pins (take place list)))
  goes_on pin is = let P : List PinRef → Type 0 = λ steps. Connects c line steps in
      connects_last c line (entered_pins (take place list)) pin
      (subst P (sym (pins_up_to list place else_ inside (Entered pin) is)) (connects_taken c line (place + 1) list connects))

  -- so it can be entered behind them
  pub can_step : (steps : Steps) (entry : Assumption) → get_or list place else_ ≡ entry → HasStepRoom c steps
      → steps.steps ≡ entered_pins (take place list) → CanStep steps entry
  can_step steps (Assumed own set) is room done = tt
  can_step steps (Entered pin) is room done =
      let on = goes_on pin is in let before = connects_taken c line place list connects in record {
        gate = omega (arith, on.in_circuit, room.gates);
        pin = omega (
          arith,
          slice_get_within (pins_at c pin.gate.0) pin.pin (record { 0 = line_after c line (entered_pins (take place list)) }) on.reads,
          few_pins (kind_at c pin.gate.0) (length (pins_at c pin.gate.0)) (circuit.fan_in pin.gate.0 on.in_circuit),
        );
        first = ap (λ all. condition_at steps.kind all pin.gate.0) done
            ∙ not_entered c circuit steps.kind line (entered_pins (take place list)) pin before on;
        place = let e = ap length done in
            omega (arith, e, room.levels, fewer_than_levels c circuit line (entered_pins (take place list)) pin within before on);
      }

-- the steps of a list are steps of the circuit
pub entered_on : (c : Circuit) (line : ℕ) (list : List Assumption) → Connects c line (entered_pins list) → (steps : Steps)
    → HasStepRoom c steps → steps.steps ≡ entered_pins list → IsEnteredOn c steps
entered_on c line list connects steps room is = record {
  gates = room.gates;
  steps = let P : List PinRef → Type 0 = λ xs. All (IsPin c) xs in subst P (sym is) (pins_of c line (entered_pins list) connects);
}
