-- The scope is at the root, and what is told of the nodes there is told under the engine's setting.
use Rattle.std.proofs.Common.{IfOk, get_or, subst₂}
use Rattle.pd_base.specs.declared.rules.Rules.{Rules}
use Rattle.netlist.specs.Circuit.{Circuit}
use Rattle.implication.specs.Scopes.{standing}
use Rattle.trees.specs.Faults.{RefutesAtNode}
use Rattle.refutation_check.specs.Answers.{TellsOfNodes}
use Rattle.pair_judging.specs.Targets.{seen_target}
use Rattle.refutation_check.proofs.SameSettings.{told_at_there}
use Rattle.refutation_check.proofs.refutation.refutes.Goals as goal

pub walk_refutation-requires-clause-splits : goal.walk_refutation-requires-clause-splits
walk_refutation-requires-clause-splits g c = λ place d inside.
    told_at_there c.args.engine.now (standing c.begin_root-scope.result) c.begin_root-scope.ensures.setting
    (get_or c.args.tree.now place d) (c.requires.splits place d inside)

pub returns-clause-tells : goal.returns-clause-tells
returns-clause-tells g c =
    let target = seen_target c.args.target.now in
    let setting = c.begin_root-scope.ensures.setting in
    let P : Circuit → Rules → Type 0 =
    λ n rules. IfOk c.walk_refutation.result (TellsOfNodes (RefutesAtNode g.A.Algebra.algebra n rules target) c.args.tree.now) in
    subst₂ P setting.net setting.rules (c.walk_refutation.ensures.tells target c.begin_root-scope.ensures.root)
