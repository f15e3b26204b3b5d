-- A scope that has entered the pins of a prefix stands at the root of its trees, and the walk over one from there tells whether it refutes.
use Rattle.std.proofs.Common.{◌≡◌, false, true≢false, [], length, map, Option, None, Some, IfNone, refl, sym, ap, ◌∙◌, subst, arith, List}
use Rattle.std.specs.Prelude.{is_some}
use Rattle.std.proofs.lemmas.List.{take_all}
use Rattle.pd_base.specs.Target.{Target}
use Rattle.state_sets.specs.StateAlgebra.{StateAlgebra}
use Rattle.trees.specs.declared.tree.Node.{Node}
use Rattle.trees.specs.Faults.{RefutesAtNode}
use Rattle.trees.specs.Refutations.{IsRefutation}
use Rattle.implication.specs.declared.assumption.Assumption.TheVariants.{Entered}
use Rattle.implication.specs.NodeScopes.{beginning_of}
use Rattle.implication.specs.Standing.{Standing, IsOpenIn}
use Rattle.refutation_check.specs.declared.answer.TreeCheck.TheVariants.{Yes}
use Rattle.refutation_check.specs.Answers.{TellsOfNodes}
use Rattle.refutation_check.specs.Entered.{HasEnteredFor}
use Rattle.refutation_check.specs.Walks.{IsScopeAt}
use Rattle.refutation_check.proofs.Checking.{refutation_of_nodes}
use Rattle.refutation_check.proofs.Roots.{at_root}

-- what holds where nothing was found holds
pub holds_if_none : {X : Type 0} {P : Type 0} → (found : Option X) → is_some found ≡ false → IfNone found P → P
holds_if_none None none holds = holds
holds_if_none (Some item) none holds = absurd (true≢false none)

module _ (a : StateAlgebra) (target : Target) (standing : Standing) (has : HasEnteredFor a target standing) where
  -- where no conflict stands, the scope is at the root
  pub entered_root : standing.conflict ≡ None → IsOpenIn a standing → IsScopeAt a target [] standing
  entered_root free left_open =
      at_root a target.path standing standing (length target.path.steps) (record {
        begun = beginning_of target;
        beginning = has.beginning;
        source = refl;
        entered = has.entered
            ∙ ap (map Entered) (sym (take_all (length target.path.steps) target.path.steps (omega arith)));
        free = free;
        left_open = left_open;
      }) (omega arith) refl target refl has.beginning

  -- and a tree each of whose nodes is right there refutes
  pub entered_refutes : (nodes : List Node) → TellsOfNodes (RefutesAtNode a standing.net standing.rules target) nodes Yes
      → IsRefutation standing.net standing.rules target nodes
  entered_refutes nodes tells =
      let P : StateAlgebra → Type 0 = λ b. TellsOfNodes (RefutesAtNode b standing.net standing.rules target) nodes Yes in
      refutation_of_nodes standing.net standing.rules target nodes Yes (subst P has.of_rules tells)
