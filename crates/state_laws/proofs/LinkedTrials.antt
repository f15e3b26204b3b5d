-- Where each source in the support of an end may be in one state alone, labels at rest leave each line of the support its state under the
-- pair of vectors with these states alone. So where the states of a source there and of the line to which it is linked may not be linked,
-- the source is emptied, and what lines may be in closes. For every kind of states.
use Rattle.std.proofs.Common.{◌≡◌, ℕ, ◌<◌, false, List, refl, sym, ap, ap₂, subst, ◌∙◌, arith}
use Rattle.std.proofs.lemmas.Bool.{false≢true}
use Rattle.pd_base.specs.Links.{LinkList, IsLink}
use Rattle.pd_base.specs.Pair.{Vectors}
use Rattle.pd_base.specs.Target.{Target}
use Rattle.pd_base.specs.declared.ids.PinRef.{PinRef}
use Rattle.pd_base.specs.declared.fault.Kind.{Kind}
use Rattle.netlist.specs.Circuit.{Circuit, source_count, gate_line, kind_at, line_count, pins_at}
use Rattle.netlist.specs.Lawful.{IsCircuit, ReadsLines}
use Rattle.netlist.specs.Conditions.{Meets}
use Rattle.netlist.specs.Paths.{end_of}
use Rattle.netlist.specs.LinkedPairs.{AreLinksOf, IsSupported, KeepsLinks}
use Rattle.netlist.proofs.Evaluation.{line_induction}
use Rattle.state_sets.specs.declared.state.State.{State}
use Rattle.state_sets.specs.declared.state.StateSet.{StateSet}
use Rattle.state_sets.specs.States.{Has}
use Rattle.state_sets.specs.StateAlgebra.{StateAlgebra, HasLaws}
use Rattle.state_sets.specs.LineStates.{state_under}
use Rattle.state_sets.specs.Labellings.{label_at, LiesIn}
use Rattle.state_sets.specs.Narrowing.{gate_state}
use Rattle.state_sets.specs.Hulls.{IsNarrowingOf, IsRestAmong, Closes, condition_at}
use Rattle.state_sets.specs.Hulls.Narrowing.{at_gate, along_link}
use Rattle.state_laws.specs.FailedTrials.{FailsTrial}
use Rattle.state_laws.specs.FailedTrials.FailsTrial.{at_label, at_link, at_conditions}
use Rattle.state_laws.proofs.Pairs.{pair_linked}
use Rattle.state_laws.proofs.Choices.{only_choice}
use Rattle.state_laws.proofs.Failing.{none_left}
use Rattle.state_laws.proofs.Linked.{linked_source, linked_line}
use Rattle.state_laws.proofs.PairStates.{gate_state_under}
use Rattle.state_laws.proofs.Supports.{pin_supported, linked_supported, supported_in_circuit}

module _ (a : StateAlgebra) (laws : HasLaws a) (c : Circuit) (circuit : IsCircuit c) (links : LinkList) (fit : AreLinksOf c links) (end : ℕ)
    (kind : Kind) (steps : List PinRef) (pair : Vectors) (May : ℕ → State → Type 0)
    (only : (source : ℕ) → source < source_count c → IsSupported c links end source → (state : State) → May source state
    → state ≡ state_under a c pair source) where
  module _ (labels : List StateSet) (among : IsRestAmong a c (IsNarrowingOf c links kind steps) May labels) where
    abbrev IsOnlyThis : ℕ → Type 0
    IsOnlyThis line = IsSupported c links end line → (state : State) → Has a.count (label_at labels line) state → state ≡ state_under a c pair line

    -- each line of the support has at most its state under the pair
    pub only_in_support : (line : ℕ) → line < line_count c → IsOnlyThis line
    only_in_support =
        line_induction c circuit.reads_lines IsOnlyThis
        (λ source within supported state has. only source within supported state (among.among source state has))
        (λ gate within pins supported state has.
        let gives = (((among.rest (at_gate gate (condition_at kind steps gate)) (within, refl)).exactly (gate_line c gate) state).0 has).at_gate refl in
        sym gives.gives
        ∙ ap (gate_state a (kind_at c gate))
        (only_choice a.count (label_at labels) (state_under a c pair) (pins_at c gate)
        (λ pin d inside. pins pin d inside (pin_supported c links end gate within supported pin d inside)) gives.allowed.at_pins)
        ∙ sym (gate_state_under a laws c circuit pair gate within))
        circuit.loop_free

    module _ (source line : ℕ) (supported : IsSupported c links end source) (link : IsLink links source line)
        (fails : a.link (state_under a c pair source) (state_under a c pair line) ≡ false) where
      -- and a source whose link fails has none
      pub none_where_link_fails : (state : State) → Has a.count (label_at labels source) state → ⊥
      none_where_link_fails state has =
          let kept = ((among.rest (along_link source line) link).exactly source state).0 has in
          let other = kept.at_source refl in
          let own : state ≡ state_under a c pair source =
          only_in_support source (let s = linked_source c links fit source line link in omega arith) supported state has in
          let its : other.0 ≡ state_under a c pair line =
          only_in_support line (linked_line c links fit source line link) (linked_supported c links end source line supported link) other.0 other.1 in
          false≢true (sym fails ∙ sym (ap₂ a.link own its) ∙ other.2)

  -- so what lines may be in closes
  pub closes_unless_linked : (source line : ℕ) → IsSupported c links end source → IsLink links source line
      → a.link (state_under a c pair source) (state_under a c pair line) ≡ false → Closes a c (IsNarrowingOf c links kind steps) May
  closes_unless_linked source line supported link fails =
      let within : source < line_count c = (let s = linked_source c links fit source line link in omega arith) in
      record {
        line = source;
        in_circuit = within;
        emptied = λ labels among.
            none_left a c labels among.labelling source within (none_where_link_fails labels among source line supported link fails);
      }

  -- nor does it stay open where labels that have all labels at rest have not the state of some line of the support
  pub closes_unless_allowed : ReadsLines c → end < line_count c → (hull : List StateSet)
      → ((labels : List StateSet) → IsRestAmong a c (IsNarrowingOf c links kind steps) May labels → LiesIn a.count labels hull)
      → (line : ℕ) → IsSupported c links end line → ¬ Has a.count (label_at hull line) (state_under a c pair line)
      → Closes a c (IsNarrowingOf c links kind steps) May
  closes_unless_allowed reads end_within hull lies line supported without =
      let within = supported_in_circuit c links end reads fit end_within line supported in
      record {
        line = line;
        in_circuit = within;
        emptied = λ labels among. none_left a c labels among.labelling line within
            (λ state has. without
            (subst (Has a.count (label_at hull line)) (only_in_support labels among line within supported state has)
            (lies labels among line state has)));
      }

-- a pair that fails is no pair that keeps the links and meets the conditions, where the labels have the states of such pairs
pub failed_is_none : (a : StateAlgebra) → HasLaws a → (c : Circuit) → IsCircuit c → (links : LinkList) → AreLinksOf c links → (target : Target)
    → (labels : List StateSet) (pair : Vectors)
    → ((line : ℕ) → IsSupported c links (end_of c target.path) line → Has a.count (label_at labels line) (state_under a c pair line))
    → FailsTrial a c links target labels pair → KeepsLinks c links pair → ¬ Meets c target pair
failed_is_none a laws c circuit links fit target labels pair has (at_label line supported without) keeps meets = without (has line supported)
failed_is_none a laws c circuit links fit target labels pair has (at_link source line supported link fails) keeps meets =
    false≢true (sym fails ∙ (pair_linked a laws c circuit pair target.kind links fit keeps source line link).2)
failed_is_none a laws c circuit links fit target labels pair has (at_conditions unmet) keeps meets = unmet meets
