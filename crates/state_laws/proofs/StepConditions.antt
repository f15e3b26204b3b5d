-- The condition at the gate of each step of a path is that step's own, since no step goes through a gate a second time; and a pair
-- of vectors meets it where the states of the lines under the pair do.
use Rattle.std.proofs.Common.{◌≡◌, ◌≢◌, ℕ, ◌<◌, ◌==◌, Bool, List, [], ◌∷◌, map, length, slice_get, Some, refl, ap, subst, ◌∙◌, arith, eq-eqb}
use Rattle.std.specs.Bool.{⊤}
use Rattle.std.proofs.lemmas.Bool.{cond-true, cond-false, ne_eqb}
use Rattle.std.proofs.lemmas.List.{get_or-map, length-map}
use Rattle.std.proofs.lemmas.Option.{get_or_from_slice_get, slice_get_within}
use Rattle.pd_base.specs.Pair.{Vectors}
use Rattle.pd_base.specs.Route.{Route}
use Rattle.pd_base.specs.declared.ids.LineId.{LineId}
use Rattle.pd_base.specs.declared.ids.PinRef.{PinRef}
use Rattle.pd_base.specs.declared.fault.Kind.{Kind}
use Rattle.netlist.specs.Circuit.{Circuit, gate_count, gate_line, kind_at, pins_at}
use Rattle.netlist.specs.Lawful.{IsCircuit}
use Rattle.netlist.specs.Levels.{level}
use Rattle.netlist.specs.Pins.{IsInFanIn, IsPinOn}
use Rattle.netlist.specs.Paths.{Connects, IsPrefix, end_of, line_after}
use Rattle.netlist.specs.Values.{value}
use Rattle.netlist.specs.Steadiness.{is_steady}
use Rattle.netlist.specs.Conditions.{Allows, SidesAllowed, side_condition}
use Rattle.path_laws.proofs.StepCounts.{step_raises}
use Rattle.state_sets.specs.declared.state.State.{State}
use Rattle.state_sets.specs.StateAlgebra.{StateAlgebra, HasLaws}
use Rattle.state_sets.specs.LineStates.{state_under}
use Rattle.state_sets.specs.Narrowing.{SidesMeetAt, state_at}
use Rattle.state_sets.specs.Hulls.{condition_at}
use Rattle.state_laws.proofs.FanIns.{leads_in_fan_in}
use Rattle.state_laws.proofs.SourceStates.{last_under, steady_under}

-- A step of a path: its pin reads this line, the line of its gate is in the fan-in of the end, and the condition at its gate is its
-- own.
pub record IsStepOn (c : Circuit) (kind : Kind) (path : Route) (line : ℕ) (step : PinRef) : Type 0 where
  pub reads : IsPinOn c step line
  pub in_fan_in : IsInFanIn c (end_of c path) (gate_line c step.gate.0)
  pub asks : condition_at kind path.steps step.gate.0 ≡ Some (record { pin = step.pin; kind = kind })

-- these are steps of a path, from this line on
abbrev pub AreStepsOn : Circuit → Kind → Route → ℕ → List PinRef → Type 0
AreStepsOn c kind path line [] = ⊤
AreStepsOn c kind path line (step ∷ steps) = IsStepOn c kind path line step × AreStepsOn c kind path (gate_line c step.gate.0) steps

-- the condition of a step is the one at its gate, where no step stands before it
own_condition : (kind : Kind) (step : PinRef) (steps : List PinRef)
    → condition_at kind (step ∷ steps) step.gate.0 ≡ Some (record { pin = step.pin; kind = kind })
own_condition kind step steps = cond-true (step.gate.0 == step.gate.0) _ _ (eq-eqb step.gate.0 step.gate.0 refl)

-- at other gates it is that of the steps behind
other_condition : (kind : Kind) (step : PinRef) (steps : List PinRef) (gate : ℕ) → step.gate.0 ≢ gate
    → condition_at kind (step ∷ steps) gate ≡ condition_at kind steps gate
other_condition kind step steps gate other = cond-false (step.gate.0 == gate) _ _ (ne_eqb step.gate.0 gate other)

module _ (c : Circuit) (circuit : IsCircuit c) (kind : Kind) (path : Route) where
  -- the gates that stand above a line have the conditions of these steps
  abbrev AskAbove : ℕ → List PinRef → Type 0
  AskAbove line steps = (gate : ℕ) → gate < gate_count c → level c line < level c (gate_line c gate)
      → condition_at kind path.steps gate ≡ condition_at kind steps gate

  on_from : (line : ℕ) (steps : List PinRef) → Connects c line steps → line_after c line steps ≡ end_of c path
      → AskAbove line steps → AreStepsOn c kind path line steps
  on_from line [] connects leads ask = tt
  on_from line (step ∷ steps) connects leads ask =
      let gate = step.gate.0 in
      let rises = step_raises c circuit line step connects.0 in (
        record {
          reads = connects.0;
          in_fan_in = subst (λ e. IsInFanIn c e (gate_line c gate)) leads (leads_in_fan_in c (gate_line c gate) steps connects.1);
          asks = ask gate connects.0.in_circuit rises ∙ own_condition kind step steps;
        },
        on_from (gate_line c gate) steps connects.1 leads (λ above within higher.
            ask above within (omega arith)
            ∙ other_condition kind step steps above
            (λ same. absurd (omega (arith, ap (λ g. level c (gate_line c g)) same)))),
      )

  -- the steps of a path are such
  pub steps_on : IsPrefix c path → AreStepsOn c kind path path.source.0 path.steps
  steps_on is = on_from path.source.0 path.steps is.connects refl (λ gate within above. refl)

module _ (a : StateAlgebra) (laws : HasLaws a) (c : Circuit) (pair : Vectors) where
  -- the states of the lines that a gate's pins read
  abbrev pub pin_states : ℕ → List State
  pin_states gate = map (λ line. state_under a c pair line.0) (pins_at c gate)

  pin_state : (gate pin : ℕ) (line : LineId) → slice_get (pins_at c gate) pin ≡ Some line
      → state_at a (pin_states gate) pin ≡ state_under a c pair line.0
  pin_state gate pin line reads =
      let lines = pins_at c gate in
      get_or-map (λ (l : LineId). state_under a c pair l.0) lines pin line _ (slice_get_within lines pin line reads)
      ∙ ap (λ (l : LineId). state_under a c pair l.0) (get_or_from_slice_get lines pin line line reads)

  -- where the states of a pair meet the condition of a step, the pair does
  pub sides_from_states : (kind : Kind) (line : ℕ) (step : PinRef) → slice_get (pins_at c step.gate.0) step.pin ≡ Some (record { 0 = line })
      → SidesMeetAt a (kind_at c step.gate.0) (record { pin = step.pin; kind = kind }) (pin_states step.gate.0)
      → SidesAllowed c kind pair line step
  sides_from_states kind line step reads meet pin side is =
      let gate = step.gate.0 in
      let states = pin_states gate in
      let inside : pin < length states = omega (
        arith,
        slice_get_within (pins_at c gate) pin side is.reads,
        length-map (pins_at c gate) (λ (l : LineId). state_under a c pair l.0),
      ) in
      let asked = λ (row : Bool). side_condition kind (kind_at c gate) row in
      let row : a.last (state_at a states step.pin) ≡ value c pair.second line =
      ap a.last (pin_state gate step.pin (record { 0 = line }) reads) ∙ last_under a laws c pair line in
      let last : a.last (state_at a states pin) ≡ value c pair.second side.0 =
      ap a.last (pin_state gate pin side is.reads) ∙ last_under a laws c pair side.0 in
      let held : a.steady (state_at a states pin) ≡ is_steady c pair side.0 =
      ap a.steady (pin_state gate pin side is.reads) ∙ steady_under a laws c pair side.0 in
      subst (λ steady. Allows (asked (value c pair.second line)) (value c pair.second side.0) steady) held
      (subst (λ final. Allows (asked (value c pair.second line)) final (a.steady (state_at a states pin))) last
      (subst (λ b. Allows (asked b) (a.last (state_at a states pin)) (a.steady (state_at a states pin))) row
      (meet pin inside is.other)))
