-- The steps of a prefix can be entered one after another: each is through a pin of the circuit, and no earlier one through its gate.
use Rattle.std.proofs.Common.{◌≡◌, ◌≢◌, ℕ, ◌+◌, ◌<◌, ◌≤◌, List, [], ◌∷◌, ◌++◌, take, drop, length, get_or, None, sym, ap, ◌∙◌, subst, arith}
use Rattle.std.proofs.lemmas.List.{drop_more, take-append-drop, length-take}
use Rattle.std.specs.List.{All}
use Rattle.std.proofs.lemmas.List.Elements.{All-nil, All-cons}
use Rattle.pd_base.specs.declared.ids.PinRef.{PinRef}
use Rattle.pd_base.specs.declared.fault.Kind.{Kind}
use Rattle.netlist.specs.declared.kind.GateKind.{GateKind}
use Rattle.netlist.specs.declared.kind.GateKind.TheVariants.{And, Nand, Or, Nor, Xor, Xnor, Not, Buff}
use Rattle.netlist.specs.declared.limits.TheConstants.{MOST_FAN_IN}
use Rattle.netlist.specs.Circuit.{Circuit, gate_line, line_count, kind_at, pins_at}
use Rattle.netlist.specs.Lawful.{IsCircuit, IsFanIn}
use Rattle.netlist.specs.Levels.{level, greatest_level}
use Rattle.netlist.specs.Paths.{Connects}
use Rattle.netlist.specs.Pins.{IsPin}
use Rattle.netlist.proofs.PinRow.{pin_on_line}
use Rattle.path_laws.proofs.StepCounts.{step_raises, steps_within_levels}
use Rattle.state_sets.specs.Hulls.{condition_at}
use Rattle.hulls.specs.Marks.{marked_condition}
use Rattle.hulls.proofs.Marks.{PassBy, mark_none, condition_marked}

-- a gate has few pins
fan_in_few : (kind : GateKind) (count : ℕ) → IsFanIn kind count → count ≤ MOST_FAN_IN
fan_in_few And count is = is.few
fan_in_few Nand count is = is.few
fan_in_few Or count is = is.few
fan_in_few Nor count is = is.few
fan_in_few Xor count is = is.few
fan_in_few Xnor count is = is.few
fan_in_few Not count is = omega arith
fan_in_few Buff count is = omega arith

-- where all steps pass by a gate there is no condition at it
pub none_at : (kind : Kind) (steps : List PinRef) (gate : ℕ) → PassBy steps gate → condition_at kind steps gate ≡ None
none_at kind steps gate pass = condition_marked kind steps gate ∙ ap (marked_condition kind) (mark_none steps gate pass)

module _ (c : Circuit) (circuit : IsCircuit c) where
  -- the pin of a step is below the most pins of a gate
  pub pin_fits : (step : PinRef) → IsPin c step → step.pin < MOST_FAN_IN
  pin_fits step is =
      omega (arith, is.in_gate, fan_in_few (kind_at c step.gate.0) (length (pins_at c step.gate.0)) (circuit.fan_in step.gate.0 is.in_circuit))

  -- steps that connect go through pins of the circuit
  pub pins_of_steps : (line : ℕ) (steps : List PinRef) → Connects c line steps → All (IsPin c) steps
  pins_of_steps line [] connects = All-nil (IsPin c)
  pins_of_steps line (step ∷ steps) connects =
      All-cons (IsPin c) step steps (pin_on_line c step line connects.0)
      (pins_of_steps (gate_line c step.gate.0) steps connects.1)

  -- a later step's gate stands on a higher level than the line from which the steps lead on
  later_is_higher : (line : ℕ) (steps : List PinRef) (step : PinRef) (rest : List PinRef) → Connects c line (steps ++ step ∷ rest)
      → level c line < level c (gate_line c step.gate.0)
  later_is_higher line [] step rest connects = step_raises c circuit line step connects.0
  later_is_higher line (first ∷ steps) step rest connects =
      omega (
        arith,
        step_raises c circuit line first connects.0,
        later_is_higher (gate_line c first.gate.0) steps step rest connects.1,
      )

  -- so no earlier step goes through its gate
  earlier_pass_by : (line : ℕ) (steps : List PinRef) (step : PinRef) (rest : List PinRef) → Connects c line (steps ++ step ∷ rest)
      → PassBy steps step.gate.0
  earlier_pass_by line [] step rest connects = All-nil (λ (s : PinRef). s.gate.0 ≢ step.gate.0)
  earlier_pass_by line (first ∷ steps) step rest connects =
      All-cons (λ (s : PinRef). s.gate.0 ≢ step.gate.0) first steps
      (λ same. absurd (let higher = later_is_higher (gate_line c first.gate.0) steps step rest connects.1 in
      let e = ap (λ (g : ℕ). level c (gate_line c g)) same in omega arith))
      (earlier_pass_by (gate_line c first.gate.0) steps step rest connects.1)

  -- and no condition stands at it yet
  pub first_at_gate : (kind : Kind) (line : ℕ) (steps : List PinRef) (step : PinRef) (rest : List PinRef)
      → Connects c line (steps ++ step ∷ rest) → condition_at kind steps step.gate.0 ≡ None
  first_at_gate kind line steps step rest connects =
      none_at kind steps step.gate.0 (earlier_pass_by line steps step rest connects)

  module _ (line : ℕ) (steps : List PinRef) (connects : Connects c line steps) (place : ℕ) (inside : place < length steps) (d : PinRef) where
    abbrev step : PinRef
    step = get_or steps place d

    -- the steps before and behind one of them
    around : take place steps ++ step ∷ drop (place + 1) steps ≡ steps
    around = ap (λ (rest : List PinRef). take place steps ++ rest) (sym (drop_more steps place d inside))
        ∙ take-append-drop place steps

    -- no step before this one goes through its gate
    pub step_is_first : (kind : Kind) → condition_at kind (take place steps) step.gate.0 ≡ None
    step_is_first kind =
        first_at_gate kind line (take place steps) step (drop (place + 1) steps) (subst (Connects c line) (sym around) connects)

    -- there is room for it
    pub step_has_room : line < line_count c → length (take place steps) < greatest_level c
    step_has_room within = omega (arith, steps_within_levels c circuit line steps within connects, length-take place steps)

    -- and its pin is one of the circuit
    pub step_is_pin : IsPin c step
    step_is_pin = pins_of_steps line steps connects place d inside
