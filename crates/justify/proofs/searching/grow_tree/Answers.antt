-- The tree grows from its root, and its end is the answer.
use Rattle.std.proofs.Common.{◌∷◌, [], List, refl, ap, ◌∙◌, arith}
use Rattle.std.proofs.lemmas.Grind.{common_steps}
use Rattle.pd_base.specs.declared.ids.LineId.{LineId}
use Rattle.implication.specs.Scopes.{standing}
use Rattle.justify.specs.declared.growing.Place.{Place}
use Rattle.justify.specs.Growths.{root_place}
use Rattle.pair_judging.specs.Targets.{seen_target}
use Rattle.justify.proofs.Orders.{at_least}
use Rattle.justify.proofs.Starting.{start_under_way, start_growing, root_told}
use Rattle.justify.specs.Scoping.{MayEndBy}
use Rattle.justify.proofs.Suiting.{same_error}
use Rattle.justify.proofs.Ended.{grown_whole, grown_few, answer_found, answer_counts}
use Rattle.justify.proofs.searching.grow_tree.Goals as goal

pub returns-in_err-growth-clause-goes_on : goal.returns-in_err-growth-clause-goes_on
returns-in_err-growth-clause-goes_on g c = record {
  setting = record { net = refl; rules = refl; ends = refl };
  under_way = start_under_way (seen_target c.args.task.now.target) (standing c.args.scope.now) c.requires.root.start;
  serves = c.requires.root.serves;
  later = at_least _ _ refl;
}

pub grow-grown-requires-clause-searching : goal.grow-grown-requires-clause-searching
grow-grown-requires-clause-searching g c =
    let P : LineId → List Place = λ source. root_place g.A.Algebra.algebra.count c.mark.result source ∷ [] in
    record {
      suits = c.requires.root.suits;
      under_way = start_under_way (seen_target c.args.task.now.target) (standing c.args.scope.now) c.requires.root.start;
      serves = c.requires.root.serves;
      growing = start_growing (seen_target c.args.task.now.target) (standing c.args.scope.now) c.requires.root.start c.requires.root.suits.prefix g.A.Algebra.algebra c.requires.root.left_open
          c.args.task.now.budget c.mark.result c.mark.ensures c.in_ok-growth.growth c.in_ok-growth.ensures.nodes
          (c.in_ok-growth.ensures.places ∙ ap P c.source.ensures) c.in_ok-growth.ensures.splits;
      told = root_told g.A.Algebra.algebra (seen_target c.args.task.now.target) (standing c.args.scope.now) c.requires.root.suits c.mark.result _
          (c.in_ok-growth.ensures.places ∙ ap P c.source.ensures);
    }

pub grow-grown-requires-clause-origin : goal.grow-grown-requires-clause-origin
grow-grown-requires-clause-origin g c = let entered = c.requires.root.start.entered in grind (arith, common_steps)

pub answer-requires-clause-whole : goal.answer-requires-clause-whole
answer-requires-clause-whole g c =
    grown_whole g.A.Algebra.algebra c.args.task.now (standing c.args.scope.now) (standing c.grow-grown.new.scope) c.grow-grown.new.growth c.grow-grown.result
    c.grow-grown.ensures.answer

pub answer-requires-clause-few : goal.answer-requires-clause-few
answer-requires-clause-few g c =
    grown_few g.A.Algebra.algebra c.args.task.now (standing c.args.scope.now) (standing c.grow-grown.new.scope) c.grow-grown.new.growth c.requires.root.budget
    c.grow-grown.result c.grow-grown.ensures.answer

pub returns-clause-goes_on : goal.returns-clause-goes_on
returns-clause-goes_on g c = c.grow-grown.ensures.goes_on

pub returns-clause-found : goal.returns-clause-found
returns-clause-found g c =
    answer_found g.A.Algebra.algebra c.args.task.now (standing c.args.scope.now) (standing c.grow-grown.new.scope) c.grow-grown.new.growth
    c.grow-grown.ensures.goes_on.setting.net c.grow-grown.ensures.goes_on.setting.rules
    c.grow-grown.result c.answer.result c.grow-grown.ensures.answer c.answer.ensures.answer

pub returns-clause-counted : goal.returns-clause-counted
returns-clause-counted g c =
    answer_counts g.A.Algebra.algebra c.args.task.now (standing c.args.scope.now) (standing c.grow-grown.new.scope) c.grow-grown.new.growth
    c.grow-grown.result c.answer.result c.grow-grown.ensures.answer c.answer.ensures.answer

pub returns-clause-unfinished : goal.returns-clause-unfinished
returns-clause-unfinished g c =
    same_error (MayEndBy (seen_target c.args.task.now.target) (standing c.args.scope.now)) c.grow-grown.result c.answer.result
    c.grow-grown.ensures.unfinished c.answer.ensures.unfinished
