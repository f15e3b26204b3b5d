-- Singletons decide along links: where labels at rest leave to each source in the support of an end no state but the one under a pair, and
-- no line empty, so it is at each line there, and the states of the pair along its links may be linked.
use Rattle.std.proofs.Common.{◌≡◌, ℕ, ◌<◌, true, List, refl, sym, ap, subst, ◌∙◌, arith}
use Rattle.pd_base.specs.Links.{LinkList, IsLink}
use Rattle.pd_base.specs.Pair.{Vectors}
use Rattle.pd_base.specs.declared.ids.PinRef.{PinRef}
use Rattle.pd_base.specs.declared.fault.Kind.{Kind}
use Rattle.netlist.specs.Circuit.{Circuit, gate_count, gate_line, kind_at, line_count, pins_at}
use Rattle.netlist.specs.Lawful.{IsCircuit}
use Rattle.netlist.specs.LinkedPairs.{AreLinksOf, IsSupported}
use Rattle.netlist.proofs.Evaluation.{line_induction}
use Rattle.state_sets.specs.declared.state.State.{State}
use Rattle.state_sets.specs.declared.state.StateSet.{StateSet}
use Rattle.state_sets.specs.States.{Has, no_states}
use Rattle.state_sets.specs.StateAlgebra.{StateAlgebra, HasLaws}
use Rattle.state_sets.specs.LineStates.{state_under}
use Rattle.state_sets.specs.Labellings.{label_at}
use Rattle.state_sets.specs.Narrowing.{GivesAtGate, gate_sets, gate_state}
use Rattle.state_sets.specs.Hulls.{HasNoEmptySet, IsNarrowingOf, IsRestAmong, condition_at}
use Rattle.state_sets.specs.Hulls.Narrowing.{at_gate, along_link}
use Rattle.state_laws.proofs.Choices.{only_choice}
use Rattle.state_laws.proofs.Images.{has_some}
use Rattle.state_laws.proofs.PairStates.{gate_state_under}
use Rattle.state_laws.proofs.Supports.{linked_supported, pin_supported, supported_in_circuit}
use Rattle.refutation_check.specs.NodeHulls.{IsGivenBehind}

module _ (a : StateAlgebra) (laws : HasLaws a) (c : Circuit) (circuit : IsCircuit c) (links : LinkList) (fit : AreLinksOf c links) (kind : Kind)
    (steps : List PinRef) (May : ℕ → State → Type 0) (labels : List StateSet)
    (among : IsRestAmong a c (IsNarrowingOf c links kind steps) May labels) (none_empty : HasNoEmptySet c labels) (end : ℕ)
    (within : end < line_count c) (pair : Vectors) (given : IsGivenBehind a c links end labels pair) where
  -- the line has its state under the pair alone, if it is in the support of the end
  abbrev IsDecided : ℕ → Type 0
  IsDecided line = IsSupported c links end line → (state : State) → Has a.count (label_at labels line) state → state ≡ state_under a c pair line

  -- each state that is left at a gate's line some allowed choice gives
  given_at_gate : (gate : ℕ) → gate < gate_count c → (state : State) → Has a.count (label_at labels (gate_line c gate)) state
      → GivesAtGate a (gate_sets c gate labels) (condition_at kind steps gate) state
  given_at_gate gate inside state has =
      (((among.rest (at_gate gate (condition_at kind steps gate)) (inside, refl)).exactly (gate_line c gate) state).0 has).at_gate refl

  only_state : (line : ℕ) → line < line_count c → IsDecided line
  only_state =
      line_induction c circuit.reads_lines IsDecided given
      (λ gate inside pins supported state has.
      let gives = given_at_gate gate inside state has in
      sym gives.gives
      ∙ ap (gate_state a (kind_at c gate))
      (only_choice a.count (label_at labels) (state_under a c pair) (pins_at c gate)
      (λ pin d at. pins pin d at (pin_supported c links end gate inside supported pin d at)) gives.allowed.at_pins)
      ∙ sym (gate_state_under a laws c circuit pair gate inside))
      circuit.loop_free

  has_state_under : (line : ℕ) → IsSupported c links end line → Has a.count (label_at labels line) (state_under a c pair line)
  has_state_under line supported =
      let inside = supported_in_circuit c links end circuit.reads_lines fit within line supported in
      let some = has_some a.count (label_at labels line) (among.labelling.within line no_states (omega (arith, inside, among.labelling.one_each)))
      (none_empty line inside) in
      subst (Has a.count (label_at labels line)) (only_state line inside supported some.0 some.1) some.1

  pub linked_there : (source line : ℕ) → IsSupported c links end source → IsLink links source line
      → a.link (state_under a c pair source) (state_under a c pair line) ≡ true
  linked_there source line supported link =
      let there = linked_supported c links end source line supported link in
      let kept = ((among.rest (along_link source line) link).exactly source (state_under a c pair source)).0 (has_state_under source supported) in
      let linked = kept.at_source refl in
      subst (λ (s : State). a.link (state_under a c pair source) s ≡ true)
      (only_state line (supported_in_circuit c links end circuit.reads_lines fit within line there) there linked.0 linked.1) linked.2
