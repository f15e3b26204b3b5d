-- Steps of a path whose sides are not as is asked: by which lines they fail.
use Rattle.std.proofs.Common.{◌≡◌, ℕ, ◌+◌, ◌<◌, Bool, true, false, not, subst₂, List, ◌∷◌, drop, length, get_or, refl, sym, ap, subst, ◌∙◌, arith}
use Rattle.std.specs.List.{All}
use Rattle.std.proofs.lemmas.List.{drop_more}
use Rattle.std.proofs.lemmas.List.Elements.{Contains-get_or}
use Rattle.std.proofs.lemmas.Option.{get_or_from_slice_get, slice_get_within}
use Rattle.pd_base.specs.Links.{LinkList}
use Rattle.pd_base.specs.Pair.{Vectors}
use Rattle.pd_base.specs.Route.{Route}
use Rattle.pd_base.specs.declared.fault.Kind.{Kind}
use Rattle.pd_base.specs.declared.ids.GateId.{GateId}
use Rattle.pd_base.specs.declared.ids.LineId.{LineId}
use Rattle.pd_base.specs.declared.ids.PinRef.{PinRef}
use Rattle.netlist.specs.Circuit.{Circuit, gate_count, gate_line, kind_at, line_count, pins_at}
use Rattle.netlist.specs.Conditions.{Allows, SidesAllowed, SidesMeet, side_condition}
use Rattle.netlist.specs.Lawful.{IsCircuit}
use Rattle.netlist.specs.Paths.{Connects, IsPrefix, IsSide, end_of, line_after}
use Rattle.netlist.specs.Pins.{IsInFanIn, IsPinOn}
use Rattle.netlist.specs.Steadiness.{is_steady}
use Rattle.netlist.specs.Values.{value}
use Rattle.netlist.specs.declared.side_conditions.SideCondition.{SideCondition}
use Rattle.path_laws.proofs.StepCounts.{line_after_in_circuit}
use Rattle.state_sets.specs.declared.state.State.{State}
use Rattle.state_sets.specs.StateAlgebra.{StateAlgebra, HasLaws}
use Rattle.state_laws.specs.FailedTrials.FailsTrial.{at_conditions}
use Rattle.state_laws.proofs.FanIns.{leads_in_fan_in, fan_in_in_circuit}
use Rattle.state_laws.proofs.SourceStates.{last_under, steady_under}
use Rattle.pair_judging.specs.ConeStates.{state_in}
use Rattle.cones.specs.KeptCones.{AreConeGates}
use Rattle.refutation_check.specs.declared.blaming.Failure.{Failure}
use Rattle.refutation_check.specs.Blames.{FailsStep, IsAsIn, IsFailure}
use Rattle.pair_judging.specs.Judged.{IsFailingSide}
use Rattle.pd_base.specs.declared.fault.Direction.{Direction}
use Rattle.netlist.specs.declared.kind.GateKind.{GateKind}
use Rattle.refutation_check.proofs.TrialStates.{no_gate}

-- what is read where there is no step
abbrev pub no_step : PinRef
no_step = record { gate = record { 0 = 0 }; pin = 0 }

-- a fact about two values goes over to equal ones
pub both : (P : Bool → Bool → Type 0) (a b x y : Bool) → a ≡ x → b ≡ y → P a b → P x y
both P a b x y first second fact = subst (P x) second (subst (λ v. P v b) first fact)

-- one bit is another one or its inverse
either_way : {Z : Type 0} (bit other : Bool) → (other ≡ bit → Z) → (other ≡ not bit → Z) → Z
either_way true true same apart = same refl
either_way true false same apart = apart refl
either_way false true same apart = apart refl
either_way false false same apart = same refl

module _ (a : StateAlgebra) (laws : HasLaws a) (c : Circuit) (kind : Kind) (path : Route) where
  -- The line is one of the path, and the steps left lead from it to the end. Where the sides of the path meet the conditions, theirs do.
  pub record IsOnWay (line : ℕ) (rest : List PinRef) : Type 0 where
    pub connects : Connects c line rest
    pub leads : line_after c line rest ≡ end_of c path
    pub meet : (pair : Vectors) → SidesMeet c kind pair path.source.0 path.steps → SidesMeet c kind pair line rest

  -- so it is at the source
  pub way_whole : IsPrefix c path → IsOnWay path.source.0 path.steps
  way_whole is = record { connects = is.connects; leads = refl; meet = λ pair all. all }

  -- each line of the path is in the fan-in of the end, and in the circuit
  way_in_fan_in : (line : ℕ) (rest : List PinRef) → IsOnWay line rest → IsInFanIn c (end_of c path) line
  way_in_fan_in line rest way = subst (λ e. IsInFanIn c e line) way.leads (leads_in_fan_in c line rest way.connects)

  module _ (circuit : IsCircuit c) (prefix : IsPrefix c path) where
    pub end_in_circuit : end_of c path < line_count c
    end_in_circuit = line_after_in_circuit c circuit path.source.0 path.steps (let s = prefix.source in omega arith) prefix.connects

    pub way_in_circuit : (line : ℕ) (rest : List PinRef) → IsOnWay line rest → line < line_count c
    way_in_circuit line rest way =
        fan_in_in_circuit c (end_of c path) circuit.reads_lines end_in_circuit line (way_in_fan_in line rest way)

  module _ (steps : List PinRef) (place : ℕ) (inside : place < length steps) (line : ℕ) (way : IsOnWay line (drop place steps)) where
    -- the step at this place
    abbrev step : PinRef
    step = get_or steps place no_step

    abbrev behind : List PinRef
    behind = drop (place + 1) steps

    from : drop place steps ≡ step ∷ behind
    from = drop_more steps place no_step inside

    pub step_connects : IsPinOn c step line × Connects c (gate_line c step.gate.0) behind
    step_connects = subst (Connects c line) from way.connects

    leads_on : line_after c (gate_line c step.gate.0) behind ≡ end_of c path
    leads_on = ap (line_after c line) (sym from) ∙ way.leads

    -- the steps behind are left then
    pub way_on : IsOnWay (gate_line c step.gate.0) behind
    way_on = record {
      connects = step_connects.1;
      leads = leads_on;
      meet = λ pair all. (subst (SidesMeet c kind pair line) from (way.meet pair all)).1;
    }

    -- lines that fail the step fail the path
    pub step_fails : (circuit : IsCircuit c) (links : LinkList) (direction : Direction) (states : List State) (failure : Failure)
        → FailsStep a c kind states line step failure
        → IsFailure a c links (record { path = path; direction = direction; kind = kind }) states failure
    step_fails circuit links direction states failure fails = record {
      first = fails.first;
      second = fails.second;
      fails = λ labels pair first second. at_conditions (λ meets.
          fails.fails pair first second ((subst (SidesMeet c kind pair line) from (way.meet pair meets.sides)).0));
    }

module _ (a : StateAlgebra) (laws : HasLaws a) (c : Circuit) (kind : Kind) (line : ℕ) (step : PinRef) (states : List State)
    (side : LineId) (last : Bool) (is_last : last ≡ a.last (state_in states line))
    (failing : IsFailingSide a (side_condition kind (kind_at c step.gate.0) last) states step.pin (pins_at c step.gate.0) side) where
  -- the state of a line under the pair has the last value and the steadiness
  ends_so : (pair : Vectors) (at : ℕ) → IsAsIn a c states pair at → value c pair.second at ≡ a.last (state_in states at)
  ends_so pair at is = sym (last_under a laws c pair at) ∙ ap a.last is

  steady_so : (pair : Vectors) (at : ℕ) → IsAsIn a c states pair at → is_steady c pair at ≡ a.steady (state_in states at)
  steady_so pair at is = sym (steady_under a laws c pair at) ∙ ap a.steady is

  -- a side that is not as is asked where the line ends so
  not_allowed : (condition : SideCondition) → ¬ Allows condition (a.last (state_in states side.0)) (a.steady (state_in states side.0))
      → (pair : Vectors) → IsAsIn a c states pair side.0 → side_condition kind (kind_at c step.gate.0) (value c pair.second line) ≡ condition
      → ¬ SidesAllowed c kind pair line step
  not_allowed condition fails pair there asks allowed =
      let is : IsSide c step failing.pin side = record { other = failing.other; reads = failing.reads } in
      fails
      (both (Allows condition) (value c pair.second side.0) (is_steady c pair side.0)
      (a.last (state_in states side.0)) (a.steady (state_in states side.0)) (ends_so pair side.0 there) (steady_so pair side.0 there)
      (subst (λ row. Allows row (value c pair.second side.0) (is_steady c pair side.0)) asks (allowed failing.pin side is)))

  -- it fails the step with the line
  pub with_line : line < line_count c → side.0 < line_count c → (failure : Failure) → failure.first.0 ≡ line → failure.second ≡ side
      → FailsStep a c kind states line step failure
  with_line first second failure is_line is_side = record {
    first = omega (arith, first, is_line);
    second = subst (λ (l : LineId). l.0 < line_count c) (sym is_side) second;
    fails = λ pair here there.
        not_allowed (side_condition kind (kind_at c step.gate.0) last) failing.fails pair
        (subst (λ (l : LineId). IsAsIn a c states pair l.0) is_side there)
        (ap (side_condition kind (kind_at c step.gate.0)) (ends_so pair line (subst (IsAsIn a c states pair) is_line here) ∙ sym is_last));
  }

  -- and without it, if it would not be as is asked either where the line ended at the other value
  pub alone : side.0 < line_count c
      → ¬ Allows (side_condition kind (kind_at c step.gate.0) (not last)) (a.last (state_in states side.0)) (a.steady (state_in states side.0))
      → (failure : Failure) → failure.first ≡ side → failure.second ≡ side → FailsStep a c kind states line step failure
  alone within other failure is_first is_second = record {
    first = subst (λ (l : LineId). l.0 < line_count c) (sym is_first) within;
    second = subst (λ (l : LineId). l.0 < line_count c) (sym is_second) within;
    fails = λ pair here there.
        let at : IsAsIn a c states pair side.0 = subst (λ (l : LineId). IsAsIn a c states pair l.0) is_second there in
        either_way last (value c pair.second line)
        (λ same. not_allowed (side_condition kind (kind_at c step.gate.0) last) failing.fails pair at
        (ap (side_condition kind (kind_at c step.gate.0)) same))
        (λ apart. not_allowed (side_condition kind (kind_at c step.gate.0) (not last)) other pair at
        (ap (side_condition kind (kind_at c step.gate.0)) apart));
  }

module _ (a : StateAlgebra) (c : Circuit) (kind : Kind) (step : PinRef) (states : List State) (side : LineId) (last : Bool) where
  -- what is read of the gate of a step is so of the circuit
  pub failing_there : (gate : GateKind) (condition : SideCondition) (pins : List LineId) → gate ≡ kind_at c step.gate.0
      → condition ≡ side_condition kind gate last → pins ≡ pins_at c step.gate.0 → IsFailingSide a condition states step.pin pins side
      → IsFailingSide a (side_condition kind (kind_at c step.gate.0) last) states step.pin (pins_at c step.gate.0) side
  failing_there gate condition pins is_kind is_condition are failing =
      let P : SideCondition → List LineId → Type 0 = λ row ps. IsFailingSide a row states step.pin ps side in
      subst₂ P (is_condition ∙ ap (λ k. side_condition kind k last) is_kind) are failing

  -- the side is a line of the circuit
  pub side_there : (condition : SideCondition) (pins : List LineId) → All (λ pin. pin.0 < line_count c) pins
      → IsFailingSide a condition states step.pin pins side → side.0 < line_count c
  side_there condition pins within failing =
      subst (λ (l : LineId). l.0 < line_count c) (get_or_from_slice_get pins failing.pin side side failing.reads)
      (within failing.pin side (slice_get_within pins failing.pin side failing.reads))

-- a gate of a cone is one of the circuit
pub gate_within : (c : Circuit) (links : LinkList) (end : ℕ) (gates : List GateId) → AreConeGates c links end gates → (place : ℕ)
    → place < length gates → (get_or gates place no_gate).0 < gate_count c
gate_within c links end gates are place inside =
    ((are.exactly (get_or gates place no_gate).0).0 (Contains-get_or gates place no_gate inside)).0
