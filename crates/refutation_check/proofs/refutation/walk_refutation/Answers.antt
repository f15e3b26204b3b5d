-- The nodes are tried in preorder, with the scope at each.
use Rattle.std.proofs.Common.{◌∙◌, ℕ, List, get_or, refl, sym, subst}
use Rattle.std.specs.List.{All}
use Rattle.std.proofs.lemmas.Bool.{false≢true}
use Rattle.trees.specs.declared.tree.Node.{Node}
use Rattle.trees.specs.declared.tree.Node.TheVariants.{Closed}
use Rattle.trees.specs.Trees.{IsTree}
use Rattle.implication.specs.Scopes.{standing}
use Rattle.implication.proofs.Restoring.{same_scope_twice}
use Rattle.trees.specs.Faults.{RefutesAtNode, IsFirstFaultOf}
use Rattle.refutation_check.specs.declared.answer.TreeCheck.TheVariants.{Yes}
use Rattle.refutation_check.specs.Answers.{TellsOfNodes}
use Rattle.refutation_check.specs.Walks.{IsToldAt}
use Rattle.refutation_check.proofs.Checking.{checked_none, checked_right, checked_fault, checked_more, checked_all, refutes_there, splits_on_any}
use Rattle.refutation_check.proofs.SameSettings.{told_at_there}
use Rattle.refutation_check.proofs.WalkRoots.{walk_begins}
use Rattle.implication.proofs.Settings.{same_itself, same_twice}
use Rattle.refutation_check.proofs.refutation.walk_refutation.Goals as goal

-- halves of any lines
abbrev any : ℕ → Type 0
any line = Unit {0}

pub loop-place-init : goal.loop-place-init
loop-place-init g c =
    let old = standing c.args.scope.now in
    record {
      scope = record { engine = refl; origin = refl };
      setting = same_itself old;
      walk = walk_begins old c.clear.new.self.items c.clear.ensures.items;
      checked = λ target at. checked_none g.A.Algebra.algebra (RefutesAtNode g.A.Algebra.algebra old.net old.rules target) any target c.nodes-node-items.result.now old
          c.clear.new.self.items at c.clear.ensures.items;
    }

pub returns-then-not-refutes_at-clause-tells : goal.returns-then-not-refutes_at-clause-tells
returns-then-not-refutes_at-clause-tells g c = λ target at.
    let old = standing c.args.scope.now in let now = standing c.loop-place.scope in
    let items = c.nodes-node-items.result.now in let place = c.loop-place.place in let inv = c.loop-place.invariant in
    let Is = RefutesAtNode g.A.Algebra.algebra old.net old.rules target in
    let checked = inv.checked target at in let node = get_or items place Closed in
    subst (λ (nodes : List Node). IsFirstFaultOf Is nodes place) c.nodes-node-items.ensures.nodes
    (checked_fault g.A.Algebra.algebra Is any target items place now c.loop-place.pending.items checked node Closed c.loop-place-test.true refl
    (λ right. false≢true (sym c.if-not-refutes_at.true
    ∙ (checked_right g.A.Algebra.algebra Is any target items place now c.loop-place.pending.items checked node c.refutes_at.result
    (refutes_there g.A.Algebra.algebra old now inv.setting node c.refutes_at.result c.refutes_at.ensures.right target)).1 right))
    (subst IsTree (sym c.nodes-node-items.ensures.nodes) c.nodes-node-items.ensures.tree))

pub pass-requires-clause-walk : goal.pass-requires-clause-walk
pass-requires-clause-walk g c = record { root = standing c.args.scope.now; walk = c.loop-place.invariant.walk }

pub pass-requires-clause-split : goal.pass-requires-clause-split
pass-requires-clause-split g c =
    let old = standing c.args.scope.now in let now = standing c.loop-place.scope in
    let node = get_or c.nodes-node-items.result.now c.loop-place.place Closed in
    c.refutes_at.ensures.on
    (told_at_there old now c.loop-place.invariant.setting node
    (subst (λ (nodes : List Node). All (IsToldAt old) nodes) (sym c.nodes-node-items.ensures.nodes) c.requires.splits c.loop-place.place Closed c.loop-place-test.true))
    c.if-not-refutes_at.false

pub returns-in_err-pass-clause-extends : goal.returns-in_err-pass-clause-extends
returns-in_err-pass-clause-extends g c = (c.pass.ensures.root (standing c.args.scope.now) c.loop-place.invariant.walk).extends

pub loop-place-preserved : goal.loop-place-preserved
loop-place-preserved g c =
    let old = standing c.args.scope.now in let now = standing c.loop-place.scope in let next = standing c.pass.new.scope in
    let items = c.nodes-node-items.result.now in let place = c.loop-place.place in let inv = c.loop-place.invariant in
    let node = get_or items place Closed in
    record {
      scope = same_scope_twice inv.scope c.pass.ensures.scope;
      setting = same_twice old now next inv.setting c.pass.ensures.setting;
      walk = c.pass.ensures.root old inv.walk;
      checked = λ target at.
          let Is = RefutesAtNode g.A.Algebra.algebra old.net old.rules target in
          let checked = inv.checked target at in
          let right = (checked_right g.A.Algebra.algebra Is any target items place now c.loop-place.pending.items checked node c.refutes_at.result
          (refutes_there g.A.Algebra.algebra old now inv.setting node c.refutes_at.result c.refutes_at.ensures.right target)).0 c.if-not-refutes_at.false in
          checked_more g.A.Algebra.algebra Is any target items place now c.loop-place.pending.items checked node Closed next c.pass.new.pending.items
          c.loop-place-test.true refl right (splits_on_any node) c.in_ok-pass.ensures.passes;
    }

pub returns-clause-tells : goal.returns-clause-tells
returns-clause-tells g c = λ target at.
    let old = standing c.args.scope.now in
    let Is = RefutesAtNode g.A.Algebra.algebra old.net old.rules target in
    subst (λ (nodes : List Node). TellsOfNodes Is nodes Yes) c.nodes-node-items.ensures.nodes
    (checked_all g.A.Algebra.algebra Is any target c.nodes-node-items.result.now c.loop-place.place (standing c.loop-place.scope) c.loop-place.pending.items
    (c.loop-place.invariant.checked target at) c.loop-place-test.false
    (subst IsTree (sym c.nodes-node-items.ensures.nodes) c.nodes-node-items.ensures.tree))
