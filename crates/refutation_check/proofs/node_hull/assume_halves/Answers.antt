use Rattle.std.proofs.Common.{◌<◌, false, List, take, get_or, sym, subst, ◌∙◌}
use Rattle.std.proofs.lemmas.List.{take_more, take_all}
use Rattle.netlist.specs.Circuit.{Circuit, line_count}
use Rattle.state_laws.specs.declared.split.SplitKind.TheVariants.{LastValue}
use Rattle.state_laws.specs.declared.split.Half.{Half}
use Rattle.implication.specs.Scopes.{standing}
use Rattle.refutation_check.specs.Walks.{IsScopeAt}
use Rattle.refutation_check.proofs.SameSettings.{all_are_told}
use Rattle.implication.proofs.Settings.{same_itself, same_twice, same_of_extended}
use Rattle.refutation_check.proofs.node_hull.assume_halves.Goals as goal

-- One half more is assumed, and at the end all are.

abbrev no_half : Half
no_half = record { split = record { line = record { 0 = 0 }; kind = LastValue }; second = false }

pub loop-half-init : goal.loop-half-init
loop-half-init g c = record {
  setting = same_itself (standing c.args.scope.now);
  below = λ target at. at;
}

pub assume_half-requires : goal.assume_half-requires
assume_half-requires g c =
    let P : Circuit → Type 0 = λ n. (get_or c.args.halves.now c.loop-half.half-index no_half).split.line.0 < line_count n in
    record {
      line = subst P (sym c.loop-half.invariant.setting.net) (c.requires.lines c.loop-half.half-index no_half c.loop-half-test.true);
      told = all_are_told (standing c.loop-half.scope) (c.loop-half.invariant.setting.ends ∙ c.requires.all_told)
          (get_or c.args.halves.now c.loop-half.half-index no_half).split.line.0;
    }

pub loop-half-preserved : goal.loop-half-preserved
loop-half-preserved g c =
    let halves = c.args.halves.now in let place = c.loop-half.half-index in
    let before = standing c.loop-half.scope in let after = standing c.assume_half.new.scope in
    record {
      setting = same_twice (standing c.args.scope.now) before after c.loop-half.invariant.setting
          (same_of_extended before after c.assume_half.ensures.extends);
      below = λ target at. subst (λ (list : List Half). IsScopeAt g.A.Algebra.algebra target list after)
          (sym (take_more halves place no_half c.loop-half-test.true))
          (c.assume_half.ensures.below target (take place halves) (c.loop-half.invariant.below target at));
    }

pub returns-clause-below : goal.returns-clause-below
returns-clause-below g c = λ target at.
    subst (λ (list : List Half). IsScopeAt g.A.Algebra.algebra target list (standing c.loop-half.scope))
    (take_all c.loop-half.half-index c.args.halves.now c.loop-half-test.false) (c.loop-half.invariant.below target at)
