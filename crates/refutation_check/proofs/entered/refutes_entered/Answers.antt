-- The walk goes on from the root, and going back to the mark restores the scope.
use Rattle.std.proofs.Common.{List, true≢false, sym, ◌∙◌, subst, arith}
use Rattle.std.specs.List.{All}
use Rattle.trees.specs.declared.tree.Node.{Node}
use Rattle.trees.specs.Faults.{RefutesAtNode}
use Rattle.implication.specs.Scopes.{standing}
use Rattle.refutation_check.specs.Answers.{TellsOfNodes}
use Rattle.refutation_check.specs.Walks.{IsToldAt}
use Rattle.refutation_check.proofs.Walking.{back_restores}
use Rattle.refutation_check.proofs.EnteredRoots.{entered_refutes, entered_root, holds_if_none}
use Rattle.refutation_check.specs.declared.answer.TreeCheck.{TreeCheck}
use Rattle.refutation_check.proofs.entered.refutes_entered.Goals.{in-Yes, in_default}
use Rattle.refutation_check.proofs.entered.refutes_entered.Goals as goal

pub walk_refutation-told-requires-clause-splits : goal.walk_refutation-told-requires-clause-splits
walk_refutation-told-requires-clause-splits g c =
    let P : List Node → Type 0 = λ nodes. All (IsToldAt (standing c.args.scope.now)) nodes in
    subst P c.nodes.ensures.nodes (c.tells_splits.ensures c.if-not-tells_splits.false)

pub returns-clause-refutes : goal.returns-clause-refutes
returns-clause-refutes g c is_yes target has =
    let now = standing c.args.scope.now in
    let root =
    entered_root g.A.Algebra.algebra target now has c.requires.free
    (holds_if_none c.conflict.result (sym c.is_some.ensures ∙ c.if-is_some.false) c.conflict.ensures.open) in
    let tells = c.in_ok-told.ensures.tells target root in
    let P : TreeCheck → Type 0 =
    λ check. TellsOfNodes (RefutesAtNode g.A.Algebra.algebra now.net now.rules target) c.args.tree.now check in
    elim c.match-matches.branch [
      | in-Yes w ↦ entered_refutes g.A.Algebra.algebra target now has c.args.tree.now (subst P w.in-Yes.is tells)
      | in_default w ↦ absurd (true≢false (sym is_yes ∙ w.matches-is))
    ]

pub back_to-requires-clause-now : goal.back_to-requires-clause-now
back_to-requires-clause-now g c =
    let marked = c.mark-mark.ensures in let longer = c.walk_refutation-told.ensures.extends.longer in omega (arith, marked, longer)

pub returns-clause-restored : goal.returns-clause-restored
returns-clause-restored g c =
    back_restores g.A.Algebra.algebra (standing c.args.scope.now) (standing c.walk_refutation-told.new.scope) (standing c.back_to.new.self)
    c.mark-mark.result.at c.mark-mark.ensures c.walk_refutation-told.ensures.extends c.back_to.ensures.back
