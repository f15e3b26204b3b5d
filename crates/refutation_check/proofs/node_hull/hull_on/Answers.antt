use Rattle.std.proofs.Common.{◌<◌, IfOk, sym, ◌∙◌, subst, subst₂}
use Rattle.std.specs.List.{All}
use Rattle.pd_base.specs.declared.rules.Rules.{Rules}
use Rattle.netlist.specs.Circuit.{Circuit, line_count}
use Rattle.netlist.specs.Paths.{end_of}
use Rattle.state_laws.specs.declared.split.Half.{Half}
use Rattle.refutation_check.specs.NodeHulls.{IsFoundAt}
use Rattle.pair_judging.specs.Targets.{seen_target}
use Rattle.refutation_check.proofs.SameSettings.{all_are_told}
use Rattle.refutation_check.proofs.node_hull.hull_on.Goals as goal

-- The scope is at the root as it begins, and at the node once the halves are assumed; its answer is one under the engine's setting.

pub begin_root-scope-requires-clause-told : goal.begin_root-scope-requires-clause-told
begin_root-scope-requires-clause-told g c =
    all_are_told c.args.engine.now c.requires.all_told (end_of c.args.engine.now.net c.args.target.now.path.now)

pub assume_halves-requires : goal.assume_halves-requires
assume_halves-requires g c =
    let P : Circuit → Type 0 = λ n. All (λ (half : Half). half.split.line.0 < line_count n) c.args.halves.now in
    record {
      all_told = c.begin_root-scope.ensures.setting.ends ∙ c.requires.all_told;
      lines = subst P (sym c.begin_root-scope.ensures.setting.net) c.requires.lines;
    }

pub hull_of-requires : goal.hull_of-requires
hull_of-requires g c =
    record { all_told = c.assume_halves.ensures.setting.ends ∙ c.begin_root-scope.ensures.setting.ends ∙ c.requires.all_told }

pub returns : goal.returns
returns g c =
    let target = seen_target c.args.target.now in
    let begun = c.begin_root-scope.ensures.setting in let assumed = c.assume_halves.ensures.setting in
    let P : Circuit → Rules → Type 0 = λ n rules. IfOk c.hull_of.result (IsFoundAt g.A.Algebra.algebra n rules target c.args.halves.now) in
    subst₂ P (assumed.net ∙ begun.net) (assumed.rules ∙ begun.rules)
    (c.hull_of.ensures target c.args.halves.now (c.assume_halves.ensures.below target c.begin_root-scope.ensures.root))
