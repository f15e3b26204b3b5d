-- The labels of a scope that tells all lines are the hull at its node, and where a conflict stands, the node closes at its line.
use Rattle.std.proofs.Common.{◌≡◌, List, length, Option, Some, None, Ok, Err, sym, ◌∙◌, subst, arith}
use Rattle.std.proofs.lemmas.List.{same_lists, get_or_default}
use Rattle.pd_base.specs.Target.{Target}
use Rattle.pd_base.specs.declared.ids.LineId.{LineId}
use Rattle.netlist.specs.Circuit.{Circuit, line_count}
use Rattle.state_sets.specs.declared.state.StateSet.{StateSet}
use Rattle.state_sets.specs.StateAlgebra.{StateAlgebra}
use Rattle.pd_base.specs.Links.{links_of}
use Rattle.state_sets.specs.States.{no_states}
use Rattle.state_sets.specs.Hulls.{IsNarrowingOf, HasNoEmptySet}
use Rattle.state_laws.proofs.Hulls.{emptied_if_empty}
use Rattle.pd_base.specs.declared.rules.Rules.{Rules}
use Rattle.implication.specs.NodeScopes.{beginning_of}
use Rattle.implication.proofs.ScopeLabels.{labels_under}
use Rattle.implication.proofs.NodeScopes.{hull_at_node, closes_under}
use Rattle.state_laws.specs.declared.split.Half.{Half}
use Rattle.state_laws.specs.Nodes.{MayBe, IsNodeHull, ClosesAtNode}
use Rattle.std.specs.Prelude.{Bool, IfNone, IfSome, IsTrue, is_some, ◌↔◌}
use Rattle.std.proofs.lemmas.Bool.{false≢true}
use Rattle.implication.specs.declared.assumption.Conflict.{Conflict}
use Rattle.refutation_check.proofs.Closing.{closes_at_some}
use Rattle.refutation_check.proofs.SameSettings.{all_are_told}
use Rattle.implication.specs.Standing.{Standing, IsLabels, TellsLabels}
use Rattle.refutation_check.specs.NodeHulls.{IsFoundAt}
use Rattle.refutation_check.specs.Walks.{IsScopeAt, IsNodeBy, IsOpenNode}

module _ (a : StateAlgebra) where
  -- a node at which a scope stands without a conflict is open, and does not close
  pub node_of : (target : Target) (halves : List Half) (standing : Standing) → IsScopeAt a target halves standing → standing.conflict ≡ None
      → IsOpenNode a target halves standing
  node_of target halves standing at free = subst (IsNodeBy a target halves standing) free at.is_node

  pub node_open : (target : Target) (halves : List Half) (standing : Standing) → IsOpenNode a target halves standing
      → ¬ ClosesAtNode a standing.net standing.rules target halves
  node_open target halves standing node closes =
      node.left_open (closes_under a standing.net standing.rules target standing.assumptions node.entered halves node.allows closes)

  -- the hull there, as the scope has it
  pub hull_of : (target : Target) (halves : List Half) (standing : Standing) → IsScopeAt a target halves standing → IsOpenNode a target halves standing
      → (hull : List StateSet) → IsLabels a standing hull → IsNodeHull a standing.net standing.rules target halves hull
  hull_of target halves standing at node hull labels =
      hull_at_node a standing.net standing.rules target standing.assumptions node.entered halves node.allows hull
      (labels_under a standing (beginning_of target) hull at.beginning labels)

  -- where a node does not close, its hull leaves each line some state
  pub some_everywhere : (c : Circuit) (rules : Rules) (target : Target) (halves : List Half) (hull : List StateSet)
      → IsNodeHull a c rules target halves hull → (ClosesAtNode a c rules target halves → ⊥) → HasNoEmptySet c hull
  some_everywhere c rules target halves hull is not_closing line within empty = not_closing (record {
    line = line;
    in_circuit = within;
    emptied = emptied_if_empty a c (IsNarrowingOf c (links_of rules) target.kind target.path.steps) (MayBe a c rules target halves) hull is line empty;
  })

  module _ (target : Target) (halves : List Half) (standing : Standing) (at : IsScopeAt a target halves standing) where
    -- where all lines are told, the sets that the scope answers are the labels
    module _ (free : standing.conflict ≡ None) (all_told : standing.ends ≡ None) (answers labels : List StateSet)
        (one_each : length answers ≡ line_count standing.net) (labelled : IsLabels a standing labels)
        (tells : TellsLabels a.count standing labels answers) where
      is_hull : IsNodeHull a standing.net standing.rules target halves labels
      is_hull = hull_of target halves standing at (node_of target halves standing at free) labels labelled

      same : answers ≡ labels
      same =
          let lines = is_hull.rest.labelling.one_each in
          same_lists answers labels (one_each ∙ sym lines)
          (λ line d inside. get_or_default answers line d no_states inside
          ∙ (tells line (omega (arith, inside, one_each))).told (all_are_told standing all_told line)
          ∙ sym (get_or_default labels line d no_states (omega (arith, inside, one_each, lines))))

      pub rest_at_node : IsFoundAt a standing.net standing.rules target halves (Ok answers)
      rest_at_node =
          let P : List StateSet → Type 0 =
          λ sets. IsNodeHull a standing.net standing.rules target halves sets × HasNoEmptySet standing.net sets in
          subst P (sym same) (
            is_hull,
            some_everywhere standing.net standing.rules target halves labels is_hull
                (node_open target halves standing (node_of target halves standing at free)),
          )

    pub empty_at_node : (line : LineId) → standing.conflict ≡ Some line → IsFoundAt a standing.net standing.rules target halves (Err line)
    empty_at_node line stands = subst (IsNodeBy a target halves standing) stands at.is_node

    -- whether the node closes, as the scope tells its conflict
    pub closes_told : (answer : Option Conflict) → IfNone answer (standing.conflict ≡ None)
        → IfSome answer (λ found. standing.conflict ≡ Some found.0) → (r : Bool) → r ≡ is_some answer
        → IsTrue r ↔ ClosesAtNode a standing.net standing.rules target halves
    closes_told (Some conflict) none some r is = (
      λ yes. closes_at_some a standing.net standing.rules target halves conflict.0 (subst (IsNodeBy a target halves standing) some at.is_node),
      λ closes. is,
    )
    closes_told None none some r is = (
      λ yes. absurd (false≢true (sym is ∙ yes)),
      λ closes. absurd (node_open target halves standing (node_of target halves standing at none) closes),
    )
