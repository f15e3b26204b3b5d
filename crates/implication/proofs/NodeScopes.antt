-- The node at which a scope stands: its hull, and that it closes where the assumptions do.
use Rattle.std.proofs.Common.{◌≡◌, ℕ, List, sym, subst}
use Rattle.pd_base.specs.Target.{Target}
use Rattle.pd_base.specs.declared.ids.PinRef.{PinRef}
use Rattle.pd_base.specs.declared.rules.Rules.{Rules}
use Rattle.netlist.specs.Circuit.{Circuit}
use Rattle.state_sets.specs.declared.state.State.{State}
use Rattle.state_sets.specs.declared.state.StateSet.{StateSet}
use Rattle.state_sets.specs.StateAlgebra.{StateAlgebra}
use Rattle.pd_base.specs.Links.{links_of}
use Rattle.state_sets.specs.Hulls.{IsNarrowingOf, IsHull, Closes}
use Rattle.state_laws.specs.declared.split.Half.{Half}
use Rattle.state_laws.specs.Nodes.{MayBe, IsNodeHull, ClosesAtNode}
use Rattle.state_laws.proofs.Hulls.{hull_of_same, closes_if_wider, widens_by_states}
use Rattle.implication.specs.declared.assumption.Beginning.{Beginning}
use Rattle.implication.specs.declared.assumption.Assumption.{Assumption}
use Rattle.implication.specs.Assumptions.{entered_pins, MayUnder, IsHullUnder, ClosesUnder}
use Rattle.implication.specs.NodeScopes.{beginning_of, AllowAsNode}

module _ (a : StateAlgebra) (c : Circuit) (rules : Rules) (target : Target) (assumptions : List Assumption)
    (entered : entered_pins assumptions ≡ target.path.steps) (halves : List Half)
    (node : AllowAsNode a c rules target assumptions halves) where
  abbrev begun : Beginning
  begun = beginning_of target

  abbrev May : ℕ → State → Type 0
  May = MayUnder a c rules begun assumptions

  abbrev Might : ℕ → State → Type 0
  Might = MayBe a c rules target halves

  -- the hull under the assumptions is the node's
  pub hull_at_node : (hull : List StateSet) → IsHullUnder a c rules begun assumptions hull → IsNodeHull a c rules target halves hull
  hull_at_node hull is =
      hull_of_same a c (IsNarrowingOf c (links_of rules) target.kind target.path.steps) May Might
      (λ line state in_circuit in_range. (node line state in_circuit in_range).0)
      (λ line state in_circuit in_range. (node line state in_circuit in_range).1) hull
      (subst (λ (steps : List PinRef). IsHull a c (IsNarrowingOf c (links_of rules) target.kind steps) May hull) entered is)

  -- what the assumptions empty the node empties, and the other way
  pub closes_at_node : ClosesUnder a c rules begun assumptions → ClosesAtNode a c rules target halves
  closes_at_node closes =
      closes_if_wider a c (IsNarrowingOf c (links_of rules) target.kind target.path.steps) (IsNarrowingOf c (links_of rules) target.kind target.path.steps) Might May
      (widens_by_states a c (IsNarrowingOf c (links_of rules) target.kind target.path.steps) Might May
      (λ line state in_circuit in_range. (node line state in_circuit in_range).1))
      (subst (λ (steps : List PinRef). Closes a c (IsNarrowingOf c (links_of rules) target.kind steps) May) entered closes)

  pub closes_under : ClosesAtNode a c rules target halves → ClosesUnder a c rules begun assumptions
  closes_under closes =
      let Closing : List PinRef → Type 0 = λ steps. Closes a c (IsNarrowingOf c (links_of rules) target.kind steps) May in
      subst Closing (sym entered)
      (closes_if_wider a c (IsNarrowingOf c (links_of rules) target.kind target.path.steps) (IsNarrowingOf c (links_of rules) target.kind target.path.steps) May Might
      (widens_by_states a c (IsNarrowingOf c (links_of rules) target.kind target.path.steps) May Might
      (λ line state in_circuit in_range. (node line state in_circuit in_range).0)) closes)
