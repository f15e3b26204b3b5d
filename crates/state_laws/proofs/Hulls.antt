-- Hulls: there is one, it depends only on what lines may be in, it shrinks where they may be in less or where more narrowings
-- have to rest, and its empty lines are the emptied ones.
use Rattle.std.proofs.Common.{◌≡◌, ℕ, ◌<◌, ◌⊎◌, inl, inr, ⊎_elim, Bool, true, false, List, [], ◌∷◌, ◌++◌, Option, Some, None, if◌then◌else◌, ◌==◌, length, refl, sym, ◌∙◌, subst, arith}
use Rattle.std.proofs.lemmas.List.{same_lists, get_or_default}
use Rattle.pd_base.specs.Links.{LinkList, links_of}
use Rattle.pd_base.specs.Route.{Route}
use Rattle.pd_base.specs.Target.{Target, target_of}
use Rattle.pd_base.specs.declared.rules.Rules.{Rules}
use Rattle.pd_base.specs.declared.ids.PinRef.{PinRef}
use Rattle.pd_base.specs.declared.ids.LineId.{LineId}
use Rattle.pd_base.specs.declared.fault.Kind.{Kind}
use Rattle.pd_base.specs.declared.fault.Direction.{Direction}
use Rattle.netlist.specs.Circuit.{Circuit, line_count}
use Rattle.netlist.specs.Paths.{IsPrefixOf}
use Rattle.state_sets.specs.declared.state.State.{State}
use Rattle.state_sets.specs.declared.state.StateSet.{StateSet}
use Rattle.state_sets.specs.declared.condition.Condition.{Condition}
use Rattle.state_sets.specs.States.{Has, no_states}
use Rattle.state_sets.specs.StateAlgebra.{StateAlgebra}
use Rattle.state_sets.specs.Labellings.{label_at, LiesIn}
use Rattle.state_sets.specs.Narrowing.{IsNarrowing}
use Rattle.state_sets.specs.Starts.{MayStart}
use Rattle.state_sets.specs.Hulls.{Narrowing, Narrows, condition_at, IsNarrowingOf, IsAtRest, IsRestAmong, IsHull, IsEmptied, Closes, HasNoEmptySet}
use Rattle.state_sets.specs.Hulls.Narrowing.{at_gate, along_link}
use Rattle.state_laws.specs.declared.split.Half.{Half}
use Rattle.state_laws.specs.Nodes.{MayBe, IsNodeHull, IsEmptiedAtNode, ClosesAtNode}
use Rattle.state_laws.proofs.Sets.{none_has, no_state_at, has_in_circuit, same_states, label_within}
use Rattle.state_laws.proofs.Steps.{rest_without_condition}

-- each labelling at rest among the states of the first may stand among those of the second
abbrev pub Widens : StateAlgebra → Circuit → (Narrowing → Type 0) → (ℕ → State → Type 0)
    → (Narrowing → Type 0) → (ℕ → State → Type 0) → Type 0
Widens a c Narrowings May Fewer Might =
    (labels : List StateSet) → IsRestAmong a c Narrowings May labels → IsRestAmong a c Fewer Might labels

-- a line of the circuit that may be in one of the states by the first may be in it by the second
abbrev pub Allows : StateAlgebra → Circuit → (ℕ → State → Type 0) → (ℕ → State → Type 0) → Type 0
Allows a c May Might = (line : ℕ) (state : State) → line < line_count c → state.0 < a.count → May line state → Might line state

module _ (a : StateAlgebra) (c : Circuit) where
  module _ (Narrowings Fewer : Narrowing → Type 0) (May Might : ℕ → State → Type 0) (widens : Widens a c Narrowings May Fewer Might) where
    -- the hull lies in the hull of what is wider
    pub hull_in_wider : (hull wider : List StateSet) → IsHull a c Narrowings May hull → IsHull a c Fewer Might wider
        → LiesIn a.count hull wider
    hull_in_wider hull wider is wider_is = wider_is.greatest hull (widens hull is.rest)

    -- what is emptied there is emptied here
    pub emptied_if_wider : (line : ℕ) → IsEmptied a c Fewer Might line → IsEmptied a c Narrowings May line
    emptied_if_wider line emptied labels is = emptied labels (widens labels is)

    -- what closes there closes here
    pub closes_if_wider : Closes a c Fewer Might → Closes a c Narrowings May
    closes_if_wider closes = record {
      line = closes.line;
      in_circuit = closes.in_circuit;
      emptied = emptied_if_wider closes.line closes.emptied;
    }

  module _ (Narrowings : Narrowing → Type 0) (May Might : ℕ → State → Type 0) where
    -- more states allowed are wider
    pub widens_by_states : Allows a c May Might → Widens a c Narrowings May Narrowings Might
    widens_by_states allows labels is = record {
      labelling = is.labelling;
      rest = is.rest;
      among = λ line state has. allows line state (has_in_circuit a.count c labels is.labelling line state has) has.in_range
          (is.among line state has);
    }

    -- where the same states are allowed, the hull is the same, and the same lines are emptied
    pub hull_of_same : Allows a c May Might → Allows a c Might May → (hull : List StateSet)
        → IsHull a c Narrowings May hull → IsHull a c Narrowings Might hull
    hull_of_same there back hull is = record {
      rest = widens_by_states there hull is.rest;
      greatest = λ other among. is.greatest other (record {
        labelling = among.labelling;
        rest = among.rest;
        among = λ line state has. back line state (has_in_circuit a.count c other among.labelling line state has) has.in_range
            (among.among line state has);
      });
    }

  module _ (Narrowings : Narrowing → Type 0) (May : ℕ → State → Type 0) (hull : List StateSet) (is : IsHull a c Narrowings May hull) where
    -- there is one hull
    pub hull_once : (other : List StateSet) → IsHull a c Narrowings May other → hull ≡ other
    hull_once other other_is =
        let same_length : length hull ≡ length other = is.rest.labelling.one_each ∙ sym other_is.rest.labelling.one_each in
        same_lists hull other same_length
        (λ line d inside. get_or_default hull line d no_states inside
        ∙ same_states a.count (label_at hull line) (label_at other line) (label_within a.count c hull is.rest.labelling line)
        (label_within a.count c other other_is.rest.labelling line) (λ state has. other_is.greatest hull is.rest line state has)
        (λ state has. is.greatest other other_is.rest line state has)
        ∙ sym (get_or_default other line d no_states (omega arith)))

    -- an emptied line has no state in the hull
    pub empty_if_emptied : (line : ℕ) → IsEmptied a c Narrowings May line → label_at hull line ≡ no_states
    empty_if_emptied line emptied = emptied hull is.rest

    -- and a line without a state in the hull is emptied
    pub emptied_if_empty : (line : ℕ) → label_at hull line ≡ no_states → IsEmptied a c Narrowings May line
    emptied_if_empty line none labels among =
        no_state_at a.count c labels among.labelling line
        (λ state has. none_has a.count state (subst (λ s. Has a.count s state) none (is.greatest labels among line state has)))

    -- where each line has some state in the hull, nothing closes
    pub not_closing : HasNoEmptySet c hull → ¬ Closes a c Narrowings May
    not_closing some closes = some closes.line closes.in_circuit (empty_if_emptied closes.line closes.emptied)

    -- each labelling at rest whose states the lines may be in lies in the hull
    pub rest_in_hull : (labels : List StateSet) → IsRestAmong a c Narrowings May labels → LiesIn a.count labels hull
    rest_in_hull labels among = is.greatest labels among

-- what a step through the gate leaves of the conditions of the steps behind it
abbrev after_step : Kind → PinRef → Bool → Option Condition → Option Condition
after_step kind step here rest = if here then Some (record { pin = step.pin; kind = kind }) else rest

-- the condition at a gate of some steps is that of more steps, or there is none
one_step_more : (kind : Kind) (step : PinRef) (here : Bool) (few many : Option Condition) → (few ≡ many) ⊎ (few ≡ None)
    → (after_step kind step here few ≡ after_step kind step here many) ⊎ (after_step kind step here few ≡ None)
one_step_more kind step true few many either = inl refl
one_step_more kind step false few many either = either

pub condition_of_more : (kind : Kind) (steps more : List PinRef) (gate : ℕ)
    → (condition_at kind steps gate ≡ condition_at kind (steps ++ more) gate) ⊎ (condition_at kind steps gate ≡ None)
condition_of_more kind [] more gate = inr refl
condition_of_more kind (step ∷ steps) more gate =
    one_step_more kind step (step.gate.0 == gate) (condition_at kind steps gate) (condition_at kind (steps ++ more) gate)
    (condition_of_more kind steps more gate)

module _ (a : StateAlgebra) (c : Circuit) (links : LinkList) (kind : Kind) (steps more : List PinRef) where
  -- labels at rest under the conditions of more steps are at rest under those of the first ones
  rest_of_first : (labels : List StateSet) → IsAtRest a c (IsNarrowingOf c links kind (steps ++ more)) labels
      → (narrowing : Narrowing) → IsNarrowingOf c links kind steps narrowing → Narrows a c narrowing labels labels
  rest_of_first labels rest (along_link source line) is = rest (along_link source line) is
  rest_of_first labels rest (at_gate gate condition) is =
      let whole : IsNarrowing a c gate (condition_at kind (steps ++ more) gate) labels labels =
      rest (at_gate gate (condition_at kind (steps ++ more) gate)) (is.0, refl) in
      ⊎_elim
      (λ (same : condition_at kind steps gate ≡ condition_at kind (steps ++ more) gate).
      subst (λ o. IsNarrowing a c gate o labels labels) (sym (is.1 ∙ same)) whole)
      (λ (none : condition_at kind steps gate ≡ None).
      subst (λ o. IsNarrowing a c gate o labels labels) (sym (is.1 ∙ none))
      (rest_without_condition a c gate (condition_at kind (steps ++ more) gate) labels whole))
      (condition_of_more kind steps more gate)

  -- fewer steps are wider
  pub widens_by_steps : (May : ℕ → State → Type 0)
      → Widens a c (IsNarrowingOf c links kind (steps ++ more)) May (IsNarrowingOf c links kind steps) May
  widens_by_steps May labels is = record {
    labelling = is.labelling;
    rest = rest_of_first labels is.rest;
    among = is.among;
  }

module _ (a : StateAlgebra) (c : Circuit) (rules : Rules) (prefix path : Route) (of : IsPrefixOf prefix path) (direction : Direction) (kind : Kind) (halves : List Half) where
  abbrev links : LinkList
  links = links_of rules

  abbrev on : Route → Target
  on route = target_of route direction kind

  -- what a line may be in with the path it may be in with the prefix
  may_be_of_prefix : (line : ℕ) (state : State) → MayBe a c rules (on path) halves line state
      → MayBe a c rules (on prefix) halves line state
  may_be_of_prefix line state may = record {
    start = let P : LineId → Type 0 = λ source. MayStart a c rules source.0 direction line state in
        subst P (sym of.source) may.start;
    cut = may.cut;
  }

  -- what rests under the conditions of the path rests under those of the prefix
  prefix_widens : Widens a c (IsNarrowingOf c links kind path.steps) (MayBe a c rules (on path) halves)
      (IsNarrowingOf c links kind prefix.steps) (MayBe a c rules (on prefix) halves)
  prefix_widens labels is =
      widens_by_steps a c links kind prefix.steps of.rest (MayBe a c rules (on prefix) halves) labels (record {
        labelling = is.labelling;
        rest = let P : List PinRef → Type 0 = λ steps. IsAtRest a c (IsNarrowingOf c links kind steps) labels in
            subst P (sym of.steps) is.rest;
        among = λ line state has. may_be_of_prefix line state (is.among line state has);
      })

  -- a node that closes for a prefix closes for each longer prefix
  pub prefix_closes : ClosesAtNode a c rules (on prefix) halves → ClosesAtNode a c rules (on path) halves
  prefix_closes = closes_if_wider a c (IsNarrowingOf c links kind path.steps) (IsNarrowingOf c links kind prefix.steps)
      (MayBe a c rules (on path) halves) (MayBe a c rules (on prefix) halves) prefix_widens

  -- and so do emptied lines stay emptied, and hulls in hulls
  pub prefix_empties : (line : ℕ) → IsEmptiedAtNode a c rules (on prefix) halves line → IsEmptiedAtNode a c rules (on path) halves line
  prefix_empties = emptied_if_wider a c (IsNarrowingOf c links kind path.steps) (IsNarrowingOf c links kind prefix.steps)
      (MayBe a c rules (on path) halves) (MayBe a c rules (on prefix) halves) prefix_widens

  pub prefix_hulls : (hull wider : List StateSet) → IsNodeHull a c rules (on path) halves hull
      → IsNodeHull a c rules (on prefix) halves wider → LiesIn a.count hull wider
  prefix_hulls = hull_in_wider a c (IsNarrowingOf c links kind path.steps) (IsNarrowingOf c links kind prefix.steps)
      (MayBe a c rules (on path) halves) (MayBe a c rules (on prefix) halves) prefix_widens
