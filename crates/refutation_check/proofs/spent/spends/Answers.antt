-- The scope is at the root, and the cone is that of the path's end.
use Rattle.std.proofs.Common.{IfOk, sym, subst, subst₂}
use Rattle.pd_base.specs.declared.rules.Rules.{Rules}
use Rattle.netlist.specs.Circuit.{Circuit}
use Rattle.netlist.specs.Paths.{IsPrefix, end_of}
use Rattle.implication.specs.Scopes.{standing}
use Rattle.implication.specs.Standing.{IsSupportTold}
use Rattle.trees.specs.Faults.{IsRightInSpent}
use Rattle.std.proofs.lemmas.Result.{IfOk-weaker}
use Rattle.refutation_check.specs.Answers.{TellsIf}
use Rattle.refutation_check.proofs.Checking.{tells_if_by}
use Rattle.pair_judging.specs.Targets.{seen_target}
use Rattle.refutation_check.proofs.SameSettings.{support_told_there}
use Rattle.refutation_check.proofs.spent.spends.Goals as goal

pub walk_spent-requires-clause-prefix : goal.walk_spent-requires-clause-prefix
walk_spent-requires-clause-prefix g c =
    let P : Circuit → Type 0 = λ n. IsPrefix n c.args.target.now.path.now in
    subst P (sym c.begin_root-scope.ensures.setting.net) c.requires.prefix

pub walk_spent-requires-clause-root : goal.walk_spent-requires-clause-root
walk_spent-requires-clause-root g c = c.begin_root-scope.ensures.root

pub returns-clause-tells : goal.returns-clause-tells
returns-clause-tells g c =
    let setting = c.begin_root-scope.ensures.setting in
    let engine = c.args.engine.now in let root = standing c.begin_root-scope.result in let path = c.args.target.now.path.now in
    let Is = IsRightInSpent engine.net engine.rules (seen_target c.args.target.now) in
    let P : Circuit → Rules → Type 0 = λ n rules. IfOk c.walk_spent.result
    (TellsIf (IsSupportTold root (end_of root.net path)) (IsRightInSpent n rules (seen_target c.args.target.now)) c.args.tree.now) in
    IfOk-weaker c.walk_spent.result (TellsIf (IsSupportTold root (end_of root.net path)) Is c.args.tree.now)
    (TellsIf (IsSupportTold engine (end_of engine.net path)) Is c.args.tree.now)
    (tells_if_by Is c.args.tree.now (support_told_there engine root setting path))
    (subst₂ P setting.net setting.rules c.walk_spent.ensures.tells)
