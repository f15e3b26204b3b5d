-- No pair is lost: where a pair of vectors meets the conditions of a kind on a prefix, the states of the lines under it lie in
-- each hull of what lines may be in, as long as lines may be in them. So no line is emptied.
use Rattle.std.proofs.Common.{◌≡◌, ⊎_elim, ℕ, ◌<◌, ◌==◌, List, [], ◌∷◌, get_or, Some, Option, IsTrue, sym, subst, ◌∙◌, eq-eqb, arith}
use Rattle.std.specs.List.{All}
use Rattle.std.proofs.lemmas.Bool.{cases_eq, cond-true, cond-false, ne_eqb}
use Rattle.pd_base.specs.Links.{LinkList, links_of, IsLink}
use Rattle.pd_base.specs.Pair.{Vectors}
use Rattle.pd_base.specs.Route.{Route}
use Rattle.pd_base.specs.Target.{Target}
use Rattle.pd_base.specs.declared.ids.PinRef.{PinRef}
use Rattle.pd_base.specs.declared.fault.Kind.{Kind}
use Rattle.pd_base.specs.declared.rules.Rules.{Rules}
use Rattle.netlist.specs.Circuit.{Circuit, source_count, gate_count, gate_line, line_count}
use Rattle.netlist.specs.Values.{value}
use Rattle.netlist.specs.Steadiness.{is_steady}
use Rattle.netlist.specs.LinkedPairs.{AreLinksOf, FitRules, KeepsLinks, IsOfRules}
use Rattle.path_laws.proofs.GateValues.{value_of_source}
use Rattle.netlist.specs.Lawful.{IsCircuit}
use Rattle.netlist.specs.Paths.{Connects, IsPrefix}
use Rattle.netlist.specs.Conditions.{Meets, SidesMeet}
use Rattle.state_sets.specs.declared.condition.Condition.{Condition}
use Rattle.state_sets.specs.declared.state.State.{State}
use Rattle.state_sets.specs.declared.state.StateSet.{StateSet}
use Rattle.state_sets.specs.States.{Has}
use Rattle.state_sets.specs.StateAlgebra.{StateAlgebra, HasLaws}
use Rattle.state_sets.specs.LineStates.{state_under}
use Rattle.state_sets.specs.Labellings.{label_at}
use Rattle.state_sets.specs.Narrowing.{AgreesAt, IsNarrowing, IsLinkNarrowing}
use Rattle.state_sets.specs.Starts.{MayStart, IsLaunching}
use Rattle.state_sets.specs.Hulls.{condition_at, IsNarrowingOf, IsHull, Closes, HasAt}
use Rattle.state_laws.proofs.Narrowing.{keeps_agreeing}
use Rattle.state_laws.proofs.Steps.{agreeing_kept_by_link}
use Rattle.state_laws.proofs.Linked.{linked_source, linked_line}
use Rattle.state_laws.proofs.PairStates.{pair_agrees, pair_agrees_at_step, line_may}
use Rattle.state_laws.specs.declared.split.Half.{Half}
use Rattle.state_laws.specs.Halves.{IsInHalf, LiesInHalf}
use Rattle.state_laws.specs.Nodes.{MayBe, IsNodeHull, ClosesAtNode}
use Rattle.state_laws.specs.Pairs.{HasPair, HasNoPair, KeepsPairs}
use Rattle.state_laws.specs.Steadied.{KeepsRules}
use Rattle.state_laws.proofs.Singletons.{at_gate_lines, agreeing_in_hull, agreeing_never_close}
use Rattle.state_laws.proofs.SourceStates.{state_below, launching, source_has}

module _ (a : StateAlgebra) (laws : HasLaws a) (c : Circuit) (circuit : IsCircuit c) (pair : Vectors) (kind : Kind) where
  -- the states under a pair agree at a gate on these terms
  abbrev Agree : ℕ → Option Condition → Type 0
  Agree gate condition = AgreesAt a c gate condition (state_under a c pair)

  -- where the pair meets the conditions of all steps, its states agree at each gate under the condition of the step through it
  pub pair_agrees_along : (line : ℕ) (steps : List PinRef) → Connects c line steps → SidesMeet c kind pair line steps
      → (gate : ℕ) → gate < gate_count c → AgreesAt a c gate (condition_at kind steps gate) (state_under a c pair)
  pair_agrees_along line [] connects meet gate within = pair_agrees a laws c circuit pair gate within
  pair_agrees_along line (step ∷ steps) connects meet gate within =
      ⊎_elim
      (λ (same : step.gate.0 ≡ gate).
      subst (Agree gate) (sym (cond-true (step.gate.0 == gate) _ _ (eq-eqb step.gate.0 gate same)))
      (subst (λ g. Agree g (Some (record { pin = step.pin; kind = kind }))) same
      (pair_agrees_at_step a laws c circuit pair kind step.gate.0 step.pin (record { 0 = line }) connects.0.reads
      connects.0.in_circuit meet.0)))
      (λ (other : step.gate.0 ≡ gate → ⊥).
      subst (Agree gate) (sym (cond-false (step.gate.0 == gate) _ _ (ne_eqb step.gate.0 gate other)))
      (pair_agrees_along (gate_line c step.gate.0) steps connects.1 meet.1 gate within))
      (cases_eq step.gate.0 gate)

  -- a pair that keeps links is in states that may be linked
  pub pair_linked : (links : LinkList) → AreLinksOf c links → KeepsLinks c links pair → (source line : ℕ) → IsLink links source line
      → (source < line_count c) × (line < line_count c) × IsTrue (a.link (state_under a c pair source) (state_under a c pair line))
  pair_linked links of keeps source line link =
      let is_source : source < source_count c = linked_source c links of source line link in
      let meet : value c pair.second source ≡ value c pair.first line = value_of_source c pair.second source is_source ∙ keeps source line link in (
        omega arith,
        linked_line c links of source line link,
        subst (λ bit. IsTrue (a.link (a.of (is_steady c pair source) (value c pair.first source) bit) (state_under a c pair line))) (sym meet)
            ((laws.of_links (is_steady c pair source) (value c pair.first source) (value c pair.first line)
            (is_steady c pair line) (value c pair.second line) (line_may a laws c circuit pair line))),
      )

  module _ (prefix : Route) (is : IsPrefix c prefix) (links : LinkList) (of : AreLinksOf c links) (keeps : KeepsLinks c links pair) where
    module _ (sides : SidesMeet c kind pair prefix.source.0 prefix.steps) (May : ℕ → State → Type 0)
        (may : (line : ℕ) → line < line_count c → May line (state_under a c pair line)) where
      -- the states of the pair lie in each hull
      pub kept_in_hull : (hull : List StateSet) → IsHull a c (IsNarrowingOf c links kind prefix.steps) May hull
          → HasPair a c hull pair
      kept_in_hull =
          agreeing_in_hull a c circuit.reads_lines (state_under a c pair) (λ line within. state_below a laws c pair line)
          links kind prefix.steps (pair_agrees_along prefix.source.0 prefix.steps is.connects sides) (pair_linked links of keeps) May may

      -- and no line is emptied
      pub never_closes : Closes a c (IsNarrowingOf c links kind prefix.steps) May → ⊥
      never_closes =
          agreeing_never_close a c circuit.reads_lines (state_under a c pair) (λ line within. state_below a laws c pair line)
          links kind prefix.steps (pair_agrees_along prefix.source.0 prefix.steps is.connects sides) (pair_linked links of keeps) May may

module _ (a : StateAlgebra) (laws : HasLaws a) (c : Circuit) (circuit : IsCircuit c) (rules : Rules) (fit : FitRules c rules)
    (target : Target) (is : IsPrefix c target.path) (pair : Vectors) (of : IsOfRules c rules pair)
    (meets : Meets c target pair) (keeps : KeepsRules a c rules target.path.source.0 pair) where
  -- lines may be in the states of a test at the start, where the other sources start under it as the rules leave them
  pub pair_may_start : (line : ℕ)
      → MayStart a c rules target.path.source.0 target.direction line (state_under a c pair line)
  pair_may_start line = record {
    is_source = λ source. source_has a laws c pair line source;
    own = λ here. subst (λ l. IsLaunching a target.direction (state_under a c pair l)) (sym here)
        (launching a laws c pair target.path.source.0 is.source target.direction meets.launches);
    other = λ source apart. keeps line source apart;
  }

  -- and at a node of a tree of cases below halves in which they lie
  module _ (halves : List Half) (lie : All (LiesInHalf a c pair) halves) where
    pub pair_may_be : (line : ℕ) → MayBe a c rules target halves line (state_under a c pair line)
    pair_may_be line = record {
      start = pair_may_start line;
      cut = λ k d inside here. let half = get_or halves k d in
          subst (λ l. IsInHalf a half.split.kind half.second (state_under a c pair l)) (sym here) (lie k d inside);
    }

    -- the states of the pair lie in the node's hull
    pub kept_at_node : (hull : List StateSet) → IsNodeHull a c rules target halves hull → HasPair a c hull pair
    kept_at_node =
        kept_in_hull a laws c circuit pair target.kind target.path is (links_of rules) fit of meets.sides (MayBe a c rules target halves)
        (λ line within. pair_may_be line)

    -- and the node does not close
    pub node_never_closes : ClosesAtNode a c rules target halves → ⊥
    node_never_closes =
        never_closes a laws c circuit pair target.kind target.path is (links_of rules) fit of meets.sides (MayBe a c rules target halves)
        (λ line within. pair_may_be line)

module _ (a : StateAlgebra) (laws : HasLaws a) (c : Circuit) (circuit : IsCircuit c) (rules : Rules) (fit : FitRules c rules) (kind : Kind)
    (prefix : Route) (is : IsPrefix c prefix) (old : List StateSet) where
  -- no pair is lost by a narrowing at a gate
  pub narrowing_keeps_pairs : (gate : ℕ) → gate < gate_count c → (new : List StateSet)
      → IsNarrowing a c gate (condition_at kind prefix.steps gate) old new → KeepsPairs a c rules kind prefix old new
  narrowing_keeps_pairs gate within new narrows pair of sides had line inside =
      keeps_agreeing a c gate (condition_at kind prefix.steps gate) old new narrows (state_under a c pair)
      (pair_agrees_along a laws c circuit pair kind prefix.source.0 prefix.steps is.connects sides gate within)
      (at_gate_lines c circuit.reads_lines (λ l. Has a.count (label_at old l) (state_under a c pair l)) had gate within)
      line (had line inside)

  -- nor by one along a link of the rules
  pub link_narrowing_keeps_pairs : (source line : ℕ) → IsLink (links_of rules) source line → (new : List StateSet)
      → IsLinkNarrowing a source line old new → KeepsPairs a c rules kind prefix old new
  link_narrowing_keeps_pairs source line link new narrows pair of sides had at inside =
      let tie = pair_linked a laws c circuit pair kind (links_of rules) fit of source line link in
      (narrows.exactly at (state_under a c pair at)).1
      (agreeing_kept_by_link a source line old (state_under a c pair) tie.2 (had source tie.0) (had line tie.1) at (had at inside))

  -- nor by the hull of labels
  pub hull_keeps_pairs : (hull : List StateSet)
      → IsHull a c (IsNarrowingOf c (links_of rules) kind prefix.steps) (HasAt a.count old) hull
      → KeepsPairs a c rules kind prefix old hull
  hull_keeps_pairs hull is_hull pair of sides had =
      kept_in_hull a laws c circuit pair kind prefix is (links_of rules) fit of sides (HasAt a.count old) had hull is_hull

  -- labels that close have none
  pub closing_has_no_pair : Closes a c (IsNarrowingOf c (links_of rules) kind prefix.steps) (HasAt a.count old)
      → HasNoPair a c rules kind prefix old
  closing_has_no_pair closes pair of sides =
      λ had. never_closes a laws c circuit pair kind prefix is (links_of rules) fit of sides (HasAt a.count old) had closes
