-- The conditions of a path, read on the states of the lines in the fan-in of its end.
use Rattle.std.proofs.Common.{◌≡◌, ℕ, ◌+◌, ◌<◌, ◌≤◌, ◌↔◌, Bool, List, ◌∷◌, drop, length, get_or, refl, sym, ap, subst, ◌∙◌, arith}
use Rattle.std.proofs.lemmas.List.{drop_more, drop_all}
use Rattle.std.proofs.lemmas.Option.{get_or_from_slice_get, slice_get_within}
use Rattle.pd_base.specs.Pair.{Vectors}
use Rattle.pd_base.specs.Route.{Route}
use Rattle.pd_base.specs.declared.ids.LineId.{LineId}
use Rattle.pd_base.specs.declared.ids.PinRef.{PinRef}
use Rattle.pd_base.specs.declared.fault.Direction.{Direction}
use Rattle.pd_base.specs.declared.fault.Kind.{Kind}
use Rattle.netlist.specs.Circuit.{Circuit, gate_line, kind_at, line_count, pins_at}
use Rattle.netlist.specs.Lawful.{IsCircuit}
use Rattle.netlist.specs.declared.side_conditions.SideCondition.{SideCondition}
use Rattle.netlist.specs.Conditions.{Allows, Launches, SidesAllowed, SidesMeet, side_condition}
use Rattle.netlist.specs.Paths.{Connects, IsPrefix, IsSide, end_of, line_after}
use Rattle.netlist.specs.Pins.{IsInFanIn, IsPinOn}
use Rattle.netlist.specs.Steadiness.{is_steady}
use Rattle.netlist.specs.Values.{value}
use Rattle.path_laws.proofs.StepCounts.{line_after_in_circuit}
use Rattle.state_sets.specs.declared.state.State.{State}
use Rattle.state_sets.specs.StateAlgebra.{StateAlgebra, HasLaws}
use Rattle.state_sets.specs.LineStates.{state_under}
use Rattle.state_sets.specs.Starts.{IsLaunching}
use Rattle.state_laws.proofs.FanIns.{leads_in_fan_in, pin_in_fan_in, fan_in_in_circuit}
use Rattle.state_laws.proofs.SourceStates.{last_under, steady_under, launched, launching}
use Rattle.pair_judging.specs.ConeStates.{state_in, HasConeStates}
use Rattle.pair_judging.specs.Judged.{StatesPass, IsFailingSide}

-- what is read where there is no step
abbrev pub no_step : PinRef
no_step = record { gate = record { 0 = 0 }; pin = 0 }

-- a fact about two values goes over to equal ones
both : (P : Bool → Bool → Type 0) (a b x y : Bool) → a ≡ x → b ≡ y → P a b → P x y
both P a b x y first second fact = subst (P x) second (subst (λ v. P v b) first fact)

module _ (a : StateAlgebra) (laws : HasLaws a) (c : Circuit) (kind : Kind) (path : Route) (states : List State) where
  -- The line is one of the path, and the steps left lead from it to the end. Of the pairs with these states, the sides of the path meet
  -- the conditions exactly where those of the steps left do.
  pub record IsLeftAt (line : ℕ) (rest : List PinRef) : Type 0 where
    pub connects : Connects c line rest
    pub leads : line_after c line rest ≡ end_of c path
    pub same : (pair : Vectors) → HasConeStates a c (end_of c path) states pair
        → SidesMeet c kind pair path.source.0 path.steps ↔ SidesMeet c kind pair line rest

  -- so it is at the source
  pub left_whole : IsPrefix c path → IsLeftAt path.source.0 path.steps
  left_whole is = record { connects = is.connects; leads = refl; same = λ pair has. ((λ meet. meet), (λ meet. meet)) }

  -- each line of the path is in the fan-in of the end
  pub left_in_fan_in : (line : ℕ) (rest : List PinRef) → IsLeftAt line rest → IsInFanIn c (end_of c path) line
  left_in_fan_in line rest left = subst (λ e. IsInFanIn c e line) left.leads (leads_in_fan_in c line rest left.connects)

  module _ (circuit : IsCircuit c) (prefix : IsPrefix c path) where
    end_in_circuit : end_of c path < line_count c
    end_in_circuit = line_after_in_circuit c circuit path.source.0 path.steps (let s = prefix.source in omega arith) prefix.connects

    pub left_in_circuit : (line : ℕ) (rest : List PinRef) → IsLeftAt line rest → line < line_count c
    left_in_circuit line rest left =
        fan_in_in_circuit c (end_of c path) circuit.reads_lines end_in_circuit line (left_in_fan_in line rest left)

  module _ (steps : List PinRef) (place : ℕ) (inside : place < length steps) (line : ℕ) (left : IsLeftAt line (drop place steps)) where
    -- the step at this place
    abbrev step : PinRef
    step = get_or steps place no_step

    abbrev behind : List PinRef
    behind = drop (place + 1) steps

    from : drop place steps ≡ step ∷ behind
    from = drop_more steps place no_step inside

    pub connects_on : IsPinOn c step line × Connects c (gate_line c step.gate.0) behind
    connects_on = subst (Connects c line) from left.connects

    leads_on : line_after c (gate_line c step.gate.0) behind ≡ end_of c path
    leads_on = ap (line_after c line) (sym from) ∙ left.leads

    gate_in_fan_in : IsInFanIn c (end_of c path) (gate_line c step.gate.0)
    gate_in_fan_in =
        subst (λ e. IsInFanIn c e (gate_line c step.gate.0)) leads_on
        (leads_in_fan_in c (gate_line c step.gate.0) behind connects_on.1)

    pub side_in_fan_in : (pin : ℕ) (side : LineId) → IsSide c step pin side → IsInFanIn c (end_of c path) side.0
    side_in_fan_in pin side is =
        subst (λ (l : LineId). IsInFanIn c (end_of c path) l.0) (get_or_from_slice_get (pins_at c step.gate.0) pin side side is.reads)
        (pin_in_fan_in c (end_of c path) step.gate.0 connects_on.0.in_circuit gate_in_fan_in pin side
        (slice_get_within (pins_at c step.gate.0) pin side is.reads))

    module _ (condition : SideCondition)
        (asks : condition ≡ side_condition kind (kind_at c step.gate.0) (a.last (state_in states line)))
        (pair : Vectors) (has : HasConeStates a c (end_of c path) states pair) where
      last_is : (l : ℕ) → IsInFanIn c (end_of c path) l → a.last (state_in states l) ≡ value c pair.second l
      last_is l further = ap a.last (sym (has l further)) ∙ last_under a laws c pair l

      steady_is : (l : ℕ) → IsInFanIn c (end_of c path) l → a.steady (state_in states l) ≡ is_steady c pair l
      steady_is l further = ap a.steady (sym (has l further)) ∙ steady_under a laws c pair l

      asked : condition ≡ side_condition kind (kind_at c step.gate.0) (value c pair.second line)
      asked = asks ∙ ap (side_condition kind (kind_at c step.gate.0)) (last_is line (left_in_fan_in line (drop place steps) left))

      -- where the states at the side pins pass, the side pins are allowed under the pair
      pub allowed_if_pass : StatesPass a condition states step.pin (pins_at c step.gate.0) → SidesAllowed c kind pair line step
      allowed_if_pass pass pin side is =
          let further = side_in_fan_in pin side is in
          subst (λ row. Allows row (value c pair.second side.0) (is_steady c pair side.0)) asked
          (both (Allows condition) (a.last (state_in states side.0)) (a.steady (state_in states side.0))
          (value c pair.second side.0) (is_steady c pair side.0) (last_is side.0 further) (steady_is side.0 further)
          (pass pin side is.other is.reads))

      -- and where one does not, they are not
      pub fails_if_not : (side : LineId) → IsFailingSide a condition states step.pin (pins_at c step.gate.0) side
          → SidesAllowed c kind pair line step → ⊥
      fails_if_not side fails allowed =
          let is : IsSide c step fails.pin side = record { other = fails.other; reads = fails.reads } in
          let further = side_in_fan_in fails.pin side is in
          fails.fails
          (both (Allows condition) (value c pair.second side.0) (is_steady c pair side.0)
          (a.last (state_in states side.0)) (a.steady (state_in states side.0))
          (sym (last_is side.0 further)) (sym (steady_is side.0 further))
          (subst (λ row. Allows row (value c pair.second side.0) (is_steady c pair side.0)) (sym asked) (allowed fails.pin side is)))

    module _ (condition : SideCondition)
        (asks : condition ≡ side_condition kind (kind_at c step.gate.0) (a.last (state_in states line)))
        (pins : List LineId) (read : pins ≡ pins_at c step.gate.0) where
      -- the steps behind are left, where the sides of this one pass
      pub left_more : StatesPass a condition states step.pin pins → IsLeftAt (gate_line c step.gate.0) behind
      left_more pass =
          let own : StatesPass a condition states step.pin (pins_at c step.gate.0) = subst (λ ls. StatesPass a condition states step.pin ls) read pass in
          record {
            connects = connects_on.1;
            leads = leads_on;
            same = λ pair has. (
              λ meet. (subst (SidesMeet c kind pair line) from ((left.same pair has).0 meet)).1,
              λ rest. (left.same pair has).1
                  (subst (SidesMeet c kind pair line) (sym from) (allowed_if_pass condition asks pair has own, rest)),
            );
          }

      module _ (side : LineId) (fails : IsFailingSide a condition states step.pin pins side) where
        own_fails : IsFailingSide a condition states step.pin (pins_at c step.gate.0) side
        own_fails = subst (λ ls. IsFailingSide a condition states step.pin ls side) read fails

        -- and none of the pairs is a test, where they do not
        pub no_test : (pair : Vectors) → HasConeStates a c (end_of c path) states pair → SidesMeet c kind pair path.source.0 path.steps → ⊥
        no_test pair has meet =
            fails_if_not condition asks pair has side own_fails (subst (SidesMeet c kind pair line) from ((left.same pair has).0 meet)).0

        pub failing_in_fan_in : IsInFanIn c (end_of c path) side.0
        failing_in_fan_in = side_in_fan_in own_fails.pin side (record { other = own_fails.other; reads = own_fails.reads })

  -- where no step is left, the sides meet the conditions
  pub sides_meet : (steps : List PinRef) (place line : ℕ) → length steps ≤ place → IsLeftAt line (drop place steps)
      → (pair : Vectors) → HasConeStates a c (end_of c path) states pair → SidesMeet c kind pair path.source.0 path.steps
  sides_meet steps place line past left pair has =
      (left.same pair has).1 (subst (SidesMeet c kind pair line) (sym (drop_all place steps past)) tt)

  module _ (prefix : IsPrefix c path) (pair : Vectors) (has : HasConeStates a c (end_of c path) states pair) (direction : Direction) where
    own_state : state_under a c pair path.source.0 ≡ state_in states path.source.0
    own_state = has path.source.0 (leads_in_fan_in c path.source.0 path.steps prefix.connects)

    -- the pair launches the transition exactly where the state of the source does
    pub launches_if : IsLaunching a direction (state_in states path.source.0) → Launches pair direction path.source.0
    launches_if is = launched a laws c pair path.source.0 prefix.source direction (subst (IsLaunching a direction) (sym own_state) is)

    pub launching_if : Launches pair direction path.source.0 → IsLaunching a direction (state_in states path.source.0)
    launching_if launches = subst (IsLaunching a direction) own_state (launching a laws c pair path.source.0 prefix.source direction launches)
