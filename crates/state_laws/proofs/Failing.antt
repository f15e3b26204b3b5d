-- Where each source in the fan-in of a path's end may be in one state alone, and the pair of vectors that has these states fails the
-- conditions at some step, the line of that step's gate is emptied. So what lines may be in closes.
use Rattle.std.proofs.Common.{◌≡◌, ◌⊎◌, inl, inr, ⊎_elim, ℕ, zero, suc, ◌<◌, Bool, true, false, List, [], ◌∷◌, length, get_or, refl, sym, ap, subst, arith}
use Rattle.std.proofs.lemmas.Bool.{cases_eq, cases_lt}
use Rattle.std.proofs.lemmas.Option.{get_or_from_slice_get, slice_get-get_or, slice_get_within}
use Rattle.pd_base.specs.Links.{LinkList}
use Rattle.pd_base.specs.Pair.{Vectors}
use Rattle.pd_base.specs.Route.{Route}
use Rattle.pd_base.specs.declared.ids.LineId.{LineId}
use Rattle.pd_base.specs.declared.ids.PinRef.{PinRef}
use Rattle.pd_base.specs.declared.fault.Kind.{Kind}
use Rattle.netlist.specs.Circuit.{Circuit, source_count, gate_count, gate_line, kind_at, line_count, pins_at}
use Rattle.netlist.specs.Lawful.{IsCircuit}
use Rattle.netlist.specs.Pins.{IsInFanIn}
use Rattle.netlist.specs.Paths.{IsPrefix, IsSide, end_of}
use Rattle.netlist.specs.Values.{value}
use Rattle.netlist.specs.Steadiness.{is_steady}
use Rattle.netlist.specs.declared.side_conditions.SideCondition.{SideCondition}
use Rattle.netlist.specs.Conditions.{Allows, SidesAllowed, SidesMeet, side_condition}
use Rattle.netlist.specs.declared.side_conditions.SideCondition.TheVariants.{Free, EndsAt, SteadyAt, AnySteady}
use Rattle.state_sets.specs.declared.state.State.{State}
use Rattle.state_sets.specs.declared.state.StateSet.{StateSet}
use Rattle.state_sets.specs.States.{Has, no_states}
use Rattle.state_sets.specs.StateAlgebra.{StateAlgebra, HasLaws}
use Rattle.state_sets.specs.LineStates.{state_under}
use Rattle.state_sets.specs.Labellings.{label_at, IsLabelling}
use Rattle.state_sets.specs.Hulls.{IsNarrowingOf, Closes}
use Rattle.state_laws.specs.Pairs.{IsGiven}
use Rattle.state_laws.proofs.Deciding.{IsRestOn, rest_on_path, step_met}
use Rattle.state_laws.proofs.Images.{has_some}
use Rattle.state_laws.proofs.StepConditions.{AreStepsOn, steps_on}

-- a fact holds or not
abbrev IsSettled : Type 0 → Type 0
IsSettled P = P ⊎ (P → ⊥)

bits_settled : (a b : Bool) → IsSettled (a ≡ b)
bits_settled true true = inl refl
bits_settled true false = inr (λ same. absurd cc)
bits_settled false true = inr (λ same. absurd cc)
bits_settled false false = inl refl

allows_settled : (condition : SideCondition) (final steady : Bool) → IsSettled (Allows condition final steady)
allows_settled Free final steady = inl tt
allows_settled (EndsAt bit) final steady = bits_settled final bit
allows_settled (SteadyAt bit) final steady =
    ⊎_elim
    (λ (ends : final ≡ bit).
    ⊎_elim (λ (held : steady ≡ true). inl (ends, held)) (λ (moves : steady ≡ true → ⊥). inr (λ both. moves both.1))
    (bits_settled steady true))
    (λ (differs : final ≡ bit → ⊥). inr (λ both. differs both.0))
    (bits_settled final bit)
allows_settled AnySteady final steady = bits_settled steady true

-- what is settled at each number below one is settled of all of them
all_settled : (P : ℕ → Type 0) (n : ℕ) → ((k : ℕ) → k < n → IsSettled (P k)) → IsSettled ((k : ℕ) → k < n → P k)
all_settled P zero each = inl (λ k within. absurd (omega arith))
all_settled P (suc n) each =
    ⊎_elim
    (λ (last : P n).
    ⊎_elim
    (λ (all : (k : ℕ) → k < n → P k).
    inl (λ k within. ⊎_elim (all k) (λ past. subst P (omega arith) last) (cases_lt k n)))
    (λ (fails : ((k : ℕ) → k < n → P k) → ⊥). inr (λ all. fails (λ k within. all k (omega arith))))
    (all_settled P n (λ k within. each k (omega arith))))
    (λ (fails : P n → ⊥). inr (λ all. fails (all n (omega arith))))
    (each n (omega arith))

module _ (kind : Kind) (c : Circuit) (pair : Vectors) where
  -- the side pin of this number is allowed, if it is one
  abbrev AllowedAt : ℕ → PinRef → ℕ → Type 0
  AllowedAt line step pin = (side : LineId) → IsSide c step pin side
      → Allows (side_condition kind (kind_at c step.gate.0) (value c pair.second line)) (value c pair.second side.0)
      (is_steady c pair side.0)

  pin_settled : (line : ℕ) (step : PinRef) (pin : ℕ) → pin < length (pins_at c step.gate.0) → IsSettled (AllowedAt line step pin)
  pin_settled line step pin within =
      let pins = pins_at c step.gate.0 in
      let here : LineId = get_or pins pin (record { 0 = 0 }) in
      let condition = side_condition kind (kind_at c step.gate.0) (value c pair.second line) in
      ⊎_elim
      (λ (own : pin ≡ step.pin). inl (λ side is. absurd (is.other own)))
      (λ (other : pin ≡ step.pin → ⊥).
      ⊎_elim
      (λ (allowed : Allows condition (value c pair.second here.0) (is_steady c pair here.0)).
      inl (λ side is. subst (λ (l : LineId). Allows condition (value c pair.second l.0) (is_steady c pair l.0))
      (get_or_from_slice_get pins pin side (record { 0 = 0 }) is.reads) allowed))
      (λ (fails : Allows condition (value c pair.second here.0) (is_steady c pair here.0) → ⊥).
      inr (λ all. fails (all here (record { other = other; reads = slice_get-get_or pins pin (record { 0 = 0 }) within }))))
      (allows_settled condition (value c pair.second here.0) (is_steady c pair here.0)))
      (cases_eq pin step.pin)

  -- the sides of a step are allowed or not
  sides_settled : (line : ℕ) (step : PinRef) → IsSettled (SidesAllowed c kind pair line step)
  sides_settled line step =
      let pins = pins_at c step.gate.0 in
      ⊎_elim
      (λ (all : (pin : ℕ) → pin < length pins → AllowedAt line step pin).
      inl (λ pin side is. all pin (slice_get_within pins pin side is.reads) side is))
      (λ (fails : ((pin : ℕ) → pin < length pins → AllowedAt line step pin) → ⊥).
      inr (λ allowed. fails (λ pin within side is. allowed pin side is)))
      (all_settled (AllowedAt line step) (length pins) (pin_settled line step))

  -- one of these steps goes through the gate, and the pair does not meet its condition
  abbrev pub FailsAt : ℕ → List PinRef → ℕ → Type 0
  FailsAt line [] gate = ⊥
  FailsAt line (step ∷ steps) gate =
      ((step.gate.0 ≡ gate) × (SidesAllowed c kind pair line step → ⊥)) ⊎ FailsAt (gate_line c step.gate.0) steps gate

  -- the pair meets the conditions of all steps, or fails at the gate of one
  pub meets_or_fails : (line : ℕ) (steps : List PinRef) → SidesMeet c kind pair line steps ⊎ ((gate : ℕ) × FailsAt line steps gate)
  meets_or_fails line [] = inl tt
  meets_or_fails line (step ∷ steps) =
      ⊎_elim
      (λ (allowed : SidesAllowed c kind pair line step).
      ⊎_elim
      (λ (meet : SidesMeet c kind pair (gate_line c step.gate.0) steps). inl (allowed, meet))
      (λ (fails : (gate : ℕ) × FailsAt (gate_line c step.gate.0) steps gate). inr (fails.0, inr fails.1))
      (meets_or_fails (gate_line c step.gate.0) steps))
      (λ (fails : SidesAllowed c kind pair line step → ⊥). inr (step.gate.0, inl (refl, fails)))
      (sides_settled line step)

-- a line of a labelling without a state has the empty set
pub none_left : (a : StateAlgebra) (c : Circuit) (labels : List StateSet) → IsLabelling a.count c labels → (line : ℕ) → line < line_count c
    → ((state : State) → Has a.count (label_at labels line) state → ⊥) → label_at labels line ≡ no_states
none_left a c labels is line within none =
    ⊎_elim
    (λ (empty : (label_at labels line).0 ≡ 0). ap (λ n. record { 0 = n }) empty)
    (λ (some : (label_at labels line).0 ≡ 0 → ⊥).
    let found = has_some a.count (label_at labels line) (is.within line no_states (omega (arith, is.one_each)))
    (λ same. some (ap (λ (set : StateSet). set.0) same)) in
    absurd (none found.0 found.1))
    (cases_eq (label_at labels line).0 0)

module _ (a : StateAlgebra) (laws : HasLaws a) (c : Circuit) (circuit : IsCircuit c) (kind : Kind) (path : Route) (is : IsPrefix c path) (pair : Vectors) where
  -- the gate at which a pair fails is one of the circuit
  fails_in_circuit : (line : ℕ) (steps : List PinRef) → AreStepsOn c kind path line steps
      → (gate : ℕ) → FailsAt kind c pair line steps gate → gate < gate_count c
  fails_in_circuit line [] on gate fails = absurd fails
  fails_in_circuit line (step ∷ steps) on gate (inl here) = subst (λ g. g < gate_count c) here.0 on.0.reads.in_circuit
  fails_in_circuit line (step ∷ steps) on gate (inr later) = fails_in_circuit (gate_line c step.gate.0) steps on.1 gate later

  module _ (labels : List StateSet) (rest : IsRestOn a c kind path labels) (given : IsGiven a c pair path labels) where
    -- labels at rest that leave the sources only the states of the pair have none there
    none_where_fails : (line : ℕ) (steps : List PinRef) → AreStepsOn c kind path line steps
        → (gate : ℕ) → FailsAt kind c pair line steps gate
        → (state : State) → Has a.count (label_at labels (gate_line c gate)) state → ⊥
    none_where_fails line [] on gate fails state has = fails
    none_where_fails line (step ∷ steps) on gate (inl here) state has =
        here.1 (step_met a laws c circuit kind path is pair labels rest given line step on.0 state
        (subst (λ g. Has a.count (label_at labels (gate_line c g)) state) (sym here.0) has))
    none_where_fails line (step ∷ steps) on gate (inr later) state has =
        none_where_fails (gate_line c step.gate.0) steps on.1 gate later state has

  -- so what lines may be in closes, where the sources may only be in the states of a pair that does not meet the conditions
  pub closes_unless_met : (links : LinkList) (May : ℕ → State → Type 0)
      → ((source : ℕ) → source < source_count c → IsInFanIn c (end_of c path) source
      → (state : State) → May source state → state ≡ state_under a c pair source)
      → (SidesMeet c kind pair path.source.0 path.steps → ⊥) → Closes a c (IsNarrowingOf c links kind path.steps) May
  closes_unless_met links May only unmet = ⊎_elim (λ meet. absurd (unmet meet)) failing (meets_or_fails kind c pair path.source.0 path.steps)
    where
      failing : (gate : ℕ) × FailsAt kind c pair path.source.0 path.steps gate → Closes a c (IsNarrowingOf c links kind path.steps) May
      failing (gate, fails) =
          let on = steps_on c circuit kind path is in
          let within = fails_in_circuit path.source.0 path.steps on gate fails in
          record {
            line = gate_line c gate;
            in_circuit = omega arith;
            emptied = λ labels among. none_left a c labels among.labelling (gate_line c gate) (omega arith)
                (none_where_fails labels (rest_on_path a c links kind path May labels among)
                (λ source inside further state has. only source inside further state (among.among source state has))
                path.source.0 path.steps on gate fails);
          }
