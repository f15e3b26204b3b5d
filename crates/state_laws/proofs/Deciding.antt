-- Singletons decide: where labels at rest leave each source in the fan-in of a path's end in one state, and no line there empty,
-- a pair of vectors that gives these sources their states gives each line there its own, and meets the conditions at the steps.
use Rattle.std.proofs.Common.{◌≡◌, ◌≢◌, ℕ, ◌<◌, List, [], ◌∷◌, Option, refl, sym, ap, subst, ◌∙◌, arith}
use Rattle.std.specs.List.{All}
use Rattle.pd_base.specs.Links.{LinkList}
use Rattle.pd_base.specs.Pair.{Vectors}
use Rattle.pd_base.specs.Route.{Route}
use Rattle.pd_base.specs.Target.{target_of}
use Rattle.pd_base.specs.declared.ids.PinRef.{PinRef}
use Rattle.pd_base.specs.declared.fault.Direction.{Direction}
use Rattle.pd_base.specs.declared.fault.Kind.{Kind}
use Rattle.netlist.specs.Circuit.{Circuit, source_count, gate_count, gate_line, kind_at, line_count, pins_at}
use Rattle.netlist.specs.Lawful.{IsCircuit}
use Rattle.netlist.specs.Pins.{IsInFanIn}
use Rattle.netlist.specs.Paths.{IsPrefix, end_of}
use Rattle.netlist.specs.Conditions.{Meets, SidesAllowed, SidesMeet}
use Rattle.netlist.proofs.Evaluation.{line_induction}
use Rattle.path_laws.proofs.StepCounts.{line_after_in_circuit}
use Rattle.state_sets.specs.declared.condition.Condition.{Condition}
use Rattle.state_sets.specs.declared.state.State.{State}
use Rattle.state_sets.specs.declared.state.StateSet.{StateSet}
use Rattle.state_sets.specs.States.{Has, no_states}
use Rattle.state_sets.specs.StateAlgebra.{StateAlgebra, HasLaws}
use Rattle.state_sets.specs.LineStates.{state_under}
use Rattle.state_sets.specs.Labellings.{label_at, IsLabelling}
use Rattle.state_sets.specs.Narrowing.{GivesAtGate, MeetsAt, IsNarrowing, gate_sets, gate_state}
use Rattle.state_sets.specs.Starts.{IsLaunching}
use Rattle.state_sets.specs.Hulls.{HasNoEmptySet, IsNarrowingOf, IsRestAmong, condition_at}
use Rattle.state_sets.specs.Hulls.Narrowing.{at_gate}
use Rattle.state_laws.proofs.Choices.{only_choice}
use Rattle.state_laws.proofs.Images.{has_some}
use Rattle.state_laws.proofs.PairStates.{gate_state_under}
use Rattle.state_laws.specs.Pairs.{IsGiven, IsReadOff, SingletonsDecide}
use Rattle.state_laws.proofs.FanIns.{leads_in_fan_in, pin_in_fan_in, fan_in_in_circuit}
use Rattle.state_laws.proofs.SourceStates.{launched, state_read_off}
use Rattle.state_laws.proofs.StepConditions.{AreStepsOn, IsStepOn, pin_states, sides_from_states, steps_on}

-- labels that no gate in the fan-in of a path's end narrows further, under the conditions of the path's steps
pub record IsRestOn (a : StateAlgebra) (c : Circuit) (kind : Kind) (path : Route) (labels : List StateSet) : Type 0 where
  pub labelling : IsLabelling a.count c labels
  pub rest : (gate : ℕ) → gate < gate_count c → IsInFanIn c (end_of c path) (gate_line c gate)
      → IsNarrowing a c gate (condition_at kind path.steps gate) labels labels

-- and labels that leave no line there empty
abbrev pub HasNoneEmptyOn : Circuit → Route → List StateSet → Type 0
HasNoneEmptyOn c path labels = (line : ℕ) → IsInFanIn c (end_of c path) line → label_at labels line ≢ no_states

-- labels leave to a source at most its state under a pair, where they have that state and at most one
pub single_given : (a : StateAlgebra) (c : Circuit) (pair : Vectors) (path : Route) (hull : List StateSet)
    → ((source : ℕ) → source < source_count c → IsInFanIn c (end_of c path) source
    → Has a.count (label_at hull source) (state_under a c pair source)
    × ((one other : State) → Has a.count (label_at hull source) one → Has a.count (label_at hull source) other → one ≡ other))
    → IsGiven a c pair path hull
single_given a c pair path hull single source within further state has =
    let own = single source within further in own.1 state (state_under a c pair source) has own.0

-- and where its bits are read off them; the bits of other sources don't matter
pub read_off_given : (a : StateAlgebra) (laws : HasLaws a) (c : Circuit) (pair : Vectors) (path : Route) (hull : List StateSet)
    → ((source : ℕ) → source < source_count c → IsInFanIn c (end_of c path) source → IsReadOff a pair hull source)
    → IsGiven a c pair path hull
read_off_given a laws c pair path hull read source within further state has =
    let own = read source within further in
    own.alone state has ∙ sym (state_read_off a laws c pair source within own.state own.is_source own.first own.second)

module _ (a : StateAlgebra) (laws : HasLaws a) (c : Circuit) (circuit : IsCircuit c) (kind : Kind) (path : Route) (is : IsPrefix c path) (pair : Vectors)
    (hull : List StateSet) (on : IsRestOn a c kind path hull) (given : IsGiven a c pair path hull) where
  -- the path's end
  abbrev end : ℕ
  end = end_of c path

  end_in_circuit : end < line_count c
  end_in_circuit = line_after_in_circuit c circuit path.source.0 path.steps (omega (arith, is.source)) is.connects

  -- the line has its state under the pair alone, if it is in the fan-in of the end
  abbrev IsDecided : ℕ → Type 0
  IsDecided line = IsInFanIn c end line
      → (state : State) → Has a.count (label_at hull line) state → state ≡ state_under a c pair line

  -- what some allowed choice gives at a gate is given by the states of the pair, where they alone are left at the pins
  module _ (gate : ℕ) (within : gate < gate_count c) (further : IsInFanIn c end (gate_line c gate))
      (pins : All (λ line. IsDecided line.0) (pins_at c gate)) (condition : Option Condition)
      (state : State) (gives : GivesAtGate a (gate_sets c gate hull) condition state) where
    choice_decided : gives.choice ≡ pin_states a laws c pair gate
    choice_decided =
        only_choice a.count (label_at hull) (state_under a c pair) (pins_at c gate)
        (λ pin d inside. pins pin d inside (pin_in_fan_in c end gate within further pin d inside)) gives.allowed.at_pins

    gate_decided : state ≡ state_under a c pair (gate_line c gate)
    gate_decided =
        sym gives.gives
        ∙ ap (gate_state a (kind_at c gate)) choice_decided
        ∙ sym (gate_state_under a laws c circuit pair gate within)

    condition_met : MeetsAt a (kind_at c gate) condition (pin_states a laws c pair gate)
    condition_met = subst (MeetsAt a (kind_at c gate) condition) choice_decided gives.allowed.meets

  -- each state that is left at a gate's line some allowed choice gives
  given_at_gate : (gate : ℕ) → gate < gate_count c → IsInFanIn c end (gate_line c gate)
      → (state : State) → Has a.count (label_at hull (gate_line c gate)) state
      → GivesAtGate a (gate_sets c gate hull) (condition_at kind path.steps gate) state
  given_at_gate gate within further state has = (((on.rest gate within further).exactly (gate_line c gate) state).0 has).at_gate refl

  -- each line in the fan-in of the end has at most its state under the pair
  only_state : (line : ℕ) → line < line_count c → IsDecided line
  only_state =
      line_induction c circuit.reads_lines IsDecided given
      (λ gate within pins further state has. gate_decided gate within further pins (condition_at kind path.steps gate) state
      (given_at_gate gate within further state has))
      circuit.loop_free

  pub only_state_under : (line : ℕ) → IsInFanIn c end line
      → (state : State) → Has a.count (label_at hull line) state → state ≡ state_under a c pair line
  only_state_under line further =
      only_state line (fan_in_in_circuit c end circuit.reads_lines end_in_circuit line further) further

  -- so where a step's gate has some state left, the pair meets the step's condition
  pub step_met : (line : ℕ) (step : PinRef) → IsStepOn c kind path line step
      → (state : State) → Has a.count (label_at hull (gate_line c step.gate.0)) state → SidesAllowed c kind pair line step
  step_met line step of state has =
      let gate = step.gate.0 in
      sides_from_states a laws c pair kind line step of.reads.reads
      (subst (λ condition. MeetsAt a (kind_at c gate) condition (pin_states a laws c pair gate)) of.asks
      (condition_met gate of.reads.in_circuit of.in_fan_in
      (λ pin d inside. only_state _ (circuit.reads_lines gate of.reads.in_circuit pin d inside)) (condition_at kind path.steps gate)
      state (given_at_gate gate of.reads.in_circuit of.in_fan_in state has)))

  module _ (none_empty : HasNoneEmptyOn c path hull) where
    -- where no line is empty, each has its state under the pair
    pub has_state_under : (line : ℕ) → IsInFanIn c end line → Has a.count (label_at hull line) (state_under a c pair line)
    has_state_under line further =
        let within = fan_in_in_circuit c end circuit.reads_lines end_in_circuit line further in
        let some = has_some a.count (label_at hull line) (on.labelling.within line no_states (omega (arith, on.labelling.one_each)))
        (none_empty line further) in
        subst (Has a.count (label_at hull line)) (only_state_under line further some.0 some.1) some.1

    sides_decided : (line : ℕ) (steps : List PinRef) → AreStepsOn c kind path line steps → SidesMeet c kind pair line steps
    sides_decided line [] of = tt
    sides_decided line (step ∷ steps) of = (
      step_met line step of.0 (state_under a c pair (gate_line c step.gate.0))
          (has_state_under (gate_line c step.gate.0) of.0.in_fan_in),
      sides_decided (gate_line c step.gate.0) steps of.1,
    )

    -- and the pair meets the conditions at all steps
    pub singletons_meet : SidesMeet c kind pair path.source.0 path.steps
    singletons_meet = sides_decided path.source.0 path.steps (steps_on c circuit kind path is)

    -- it is a test, if the path's source is left only in states that launch the transition
    pub singletons_decide : (direction : Direction)
        → ((state : State) → Has a.count (label_at hull path.source.0) state → IsLaunching a direction state)
        → Meets c (target_of path direction kind) pair
    singletons_decide direction launching = record {
      launches = launched a laws c pair path.source.0 is.source direction
          (launching (state_under a c pair path.source.0)
          (has_state_under path.source.0 (leads_in_fan_in c path.source.0 path.steps is.connects)));
      sides = singletons_meet;
    }

-- labels at rest at all gates are at rest in the fan-in of a path's end
pub rest_on_path : (a : StateAlgebra) (c : Circuit) (links : LinkList) (kind : Kind) (path : Route) (May : ℕ → State → Type 0) (hull : List StateSet)
    → IsRestAmong a c (IsNarrowingOf c links kind path.steps) May hull → IsRestOn a c kind path hull
rest_on_path a c links kind path May hull among = record {
  labelling = among.labelling;
  rest = λ gate within further. among.rest (at_gate gate (condition_at kind path.steps gate)) (within, refl);
}

-- so the same holds of them, where no line is empty
module _ (a : StateAlgebra) (laws : HasLaws a) (c : Circuit) (circuit : IsCircuit c) (links : LinkList) (kind : Kind) (path : Route) (is : IsPrefix c path) (May : ℕ → State → Type 0)
    (hull : List StateSet) (among : IsRestAmong a c (IsNarrowingOf c links kind path.steps) May hull)
    (none_empty : HasNoEmptySet c hull) where
  none_on_path : HasNoneEmptyOn c path hull
  none_on_path line further =
      let within = line_after_in_circuit c circuit path.source.0 path.steps (omega (arith, is.source)) is.connects in
      none_empty line (fan_in_in_circuit c (end_of c path) circuit.reads_lines within line further)

  pub rest_has_sides : SingletonsDecide a c kind path hull
  rest_has_sides pair given =
      singletons_meet a laws c circuit kind path is pair hull (rest_on_path a c links kind path May hull among) given none_on_path

  pub rest_decides : (pair : Vectors) → IsGiven a c pair path hull → (direction : Direction)
      → ((state : State) → May path.source.0 state → IsLaunching a direction state)
      → Meets c (target_of path direction kind) pair
  rest_decides pair given direction launching =
      singletons_decide a laws c circuit kind path is pair hull (rest_on_path a c links kind path May hull among) given none_on_path direction
      (λ state has. launching state (among.among path.source.0 state has))
