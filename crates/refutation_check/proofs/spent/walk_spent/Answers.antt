-- The nodes are tried in preorder, with the scope at each.
use Rattle.std.proofs.Common.{◌∙◌, List, get_or, refl, sym, subst, subst₂}
use Rattle.std.proofs.lemmas.Bool.{false≢true}
use Rattle.pd_base.specs.declared.rules.Rules.{Rules}
use Rattle.netlist.specs.Circuit.{Circuit}
use Rattle.netlist.specs.Paths.{IsPrefix}
use Rattle.trees.specs.declared.tree.Node.{Node}
use Rattle.trees.specs.declared.tree.Node.TheVariants.{Closed}
use Rattle.trees.specs.Trees.{IsTree}
use Rattle.implication.specs.Scopes.{standing}
use Rattle.implication.proofs.Restoring.{same_scope_twice}
use Rattle.trees.specs.Halves.{halves_of}
use Rattle.trees.specs.Faults.{IsRightInSpent, IsFirstFaultOf}
use Rattle.trees.specs.Spent.{IsInSupport}
use Rattle.pair_judging.specs.Targets.{seen_target}
use Rattle.refutation_check.specs.declared.answer.TreeCheck.TheVariants.{Yes}
use Rattle.refutation_check.specs.Answers.{TellsOfNodes}
use Rattle.refutation_check.specs.Trials.{IsTrialRoomAt}
use Rattle.refutation_check.proofs.Checking.{checked_none, checked_on, checked_fault, checked_more, checked_all, spends_there, spent_splits_on}
use Rattle.implication.proofs.Settings.{same_itself, same_twice}
use Rattle.refutation_check.proofs.WalkRoots.{walk_begins}
use Rattle.refutation_check.proofs.spent.walk_spent.Goals as goal

pub loop-place-init : goal.loop-place-init
loop-place-init g c =
    let old = standing c.args.scope.now in
    record {
      scope = record { engine = refl; origin = refl };
      setting = same_itself old;
      walk = walk_begins old c.clear.new.self.items c.clear.ensures.items;
      room = c.requires.room;
      checked = checked_none g.A.Algebra.algebra (IsRightInSpent old.net old.rules (seen_target c.args.target.now))
          (IsInSupport old.net old.rules (seen_target c.args.target.now).path) (seen_target c.args.target.now)
          c.nodes-node-items.result.now old c.clear.new.self.items c.requires.root c.clear.ensures.items;
    }

pub returns-then-not-is_right_at-clause-scope : goal.returns-then-not-is_right_at-clause-scope
returns-then-not-is_right_at-clause-scope g c = c.loop-place.invariant.scope

pub returns-then-not-is_right_at-clause-setting : goal.returns-then-not-is_right_at-clause-setting
returns-then-not-is_right_at-clause-setting g c = c.loop-place.invariant.setting

pub returns-then-not-is_right_at-clause-room : goal.returns-then-not-is_right_at-clause-room
returns-then-not-is_right_at-clause-room g c =
    let setting = c.loop-place.invariant.setting in
    let P : Circuit → Rules → Type 0 =
    λ n rules. IsTrialRoomAt g.A.Algebra.algebra n rules (seen_target c.args.target.now) c.is_right_at.new.room in
    subst₂ P setting.net setting.rules c.is_right_at.ensures.room

pub pass-requires-clause-begun : goal.pass-requires-clause-begun
pass-requires-clause-begun g c = c.loop-place.invariant.scope.origin ∙ c.requires.begun

pub returns-in_err-pass-clause-scope : goal.returns-in_err-pass-clause-scope
returns-in_err-pass-clause-scope g c =
    same_scope_twice c.loop-place.invariant.scope c.pass.ensures.scope

pub returns-in_err-pass-clause-setting : goal.returns-in_err-pass-clause-setting
returns-in_err-pass-clause-setting g c =
    same_twice (standing c.args.scope.now) (standing c.loop-place.scope) (standing c.pass.new.scope) c.loop-place.invariant.setting
    c.pass.ensures.setting

pub returns-in_err-pass-clause-room : goal.returns-in_err-pass-clause-room
returns-in_err-pass-clause-room g c =
    let setting = c.loop-place.invariant.setting in
    let P : Circuit → Rules → Type 0 =
    λ n rules. IsTrialRoomAt g.A.Algebra.algebra n rules (seen_target c.args.target.now) c.is_right_at.new.room in
    subst₂ P setting.net setting.rules c.is_right_at.ensures.room

pub returns-clause-scope : goal.returns-clause-scope
returns-clause-scope g c = c.loop-place.invariant.scope

pub returns-clause-setting : goal.returns-clause-setting
returns-clause-setting g c = c.loop-place.invariant.setting

pub returns-clause-room : goal.returns-clause-room
returns-clause-room g c = c.loop-place.invariant.room

pub returns-then-not-is_right_at-clause-tells : goal.returns-then-not-is_right_at-clause-tells
returns-then-not-is_right_at-clause-tells g c = λ told.
    let old = standing c.args.scope.now in let now = standing c.loop-place.scope in
    let items = c.nodes-node-items.result.now in let place = c.loop-place.place in let inv = c.loop-place.invariant in
    let target = seen_target c.args.target.now in let Is = IsRightInSpent old.net old.rules target in
    let On = IsInSupport old.net old.rules target.path in
    let checked = inv.checked in let node = get_or items place Closed in
    subst (λ (nodes : List Node). IsFirstFaultOf Is nodes place) c.nodes-node-items.ensures.nodes
    (checked_fault g.A.Algebra.algebra Is On target items place now c.loop-place.pending.items checked node Closed c.loop-place-test.true refl
    (λ right. false≢true (sym c.if-not-is_right_at.true
    ∙ (spends_there g.A.Algebra.algebra old now inv.setting node c.is_right_at.result target (halves_of checked.above)
    (checked_on g.A.Algebra.algebra Is On target items place now c.loop-place.pending.items checked) c.is_right_at.ensures.right checked.walks.at).1 told right))
    (subst IsTree (sym c.nodes-node-items.ensures.nodes) c.nodes-node-items.ensures.tree))

pub is_right_at-requires-clause-prefix : goal.is_right_at-requires-clause-prefix
is_right_at-requires-clause-prefix g c =
    let P : Circuit → Type 0 = λ n. IsPrefix n c.args.target.now.path.now in
    subst P (sym c.loop-place.invariant.setting.net) c.requires.prefix

pub is_right_at-requires-clause-room : goal.is_right_at-requires-clause-room
is_right_at-requires-clause-room g c =
    let setting = c.loop-place.invariant.setting in
    let P : Circuit → Rules → Type 0 =
    λ n rules. IsTrialRoomAt g.A.Algebra.algebra n rules (seen_target c.args.target.now) c.loop-place.room in
    subst₂ P (sym setting.net) (sym setting.rules) c.loop-place.invariant.room

pub pass-requires-clause-walk : goal.pass-requires-clause-walk
pass-requires-clause-walk g c = record { root = standing c.args.scope.now; walk = c.loop-place.invariant.walk }

pub pass-requires-clause-split : goal.pass-requires-clause-split
pass-requires-clause-split g c = c.is_right_at.ensures.told c.if-not-is_right_at.false

pub loop-place-preserved : goal.loop-place-preserved
loop-place-preserved g c =
    let old = standing c.args.scope.now in let now = standing c.loop-place.scope in let next = standing c.pass.new.scope in
    let items = c.nodes-node-items.result.now in let place = c.loop-place.place in let inv = c.loop-place.invariant in
    let node = get_or items place Closed in
    record {
      scope = same_scope_twice inv.scope c.pass.ensures.scope;
      setting = same_twice old now next inv.setting c.pass.ensures.setting;
      walk = c.pass.ensures.root old inv.walk;
      room =
          let P : Circuit → Rules → Type 0 =
          λ n rules. IsTrialRoomAt g.A.Algebra.algebra n rules (seen_target c.args.target.now) c.is_right_at.new.room in
          subst₂ P inv.setting.net inv.setting.rules c.is_right_at.ensures.room;
      checked =
          let target = seen_target c.args.target.now in let Is = IsRightInSpent old.net old.rules target in
          let On = IsInSupport old.net old.rules target.path in
          let checked = inv.checked in
          let right = (spends_there g.A.Algebra.algebra old now inv.setting node c.is_right_at.result target (halves_of checked.above)
          (checked_on g.A.Algebra.algebra Is On target items place now c.loop-place.pending.items checked) c.is_right_at.ensures.right checked.walks.at).0 c.if-not-is_right_at.false in
          checked_more g.A.Algebra.algebra Is On target items place now c.loop-place.pending.items checked node Closed next c.pass.new.pending.items
          c.loop-place-test.true refl right (spent_splits_on old.net old.rules target (halves_of checked.above) node right)
          c.in_ok-pass.ensures.passes;
    }

pub returns-clause-tells : goal.returns-clause-tells
returns-clause-tells g c =
    let old = standing c.args.scope.now in
    let target = seen_target c.args.target.now in let Is = IsRightInSpent old.net old.rules target in
    let On = IsInSupport old.net old.rules target.path in
    subst (λ (nodes : List Node). TellsOfNodes Is nodes Yes) c.nodes-node-items.ensures.nodes
    (checked_all g.A.Algebra.algebra Is On target c.nodes-node-items.result.now c.loop-place.place (standing c.loop-place.scope) c.loop-place.pending.items
    c.loop-place.invariant.checked c.loop-place-test.false
    (subst IsTree (sym c.nodes-node-items.ensures.nodes) c.nodes-node-items.ensures.tree))
