-- The start closes at no prefix, so all pins of the path are entered; and what is found on the scope is found on its engine.
use Rattle.std.proofs.Common.{map, Option, sym, ap, subst, subst₂, ◌∙◌}
use Rattle.std.proofs.lemmas.List.{take_all}
use Rattle.pd_base.specs.Links.{links_of}
use Rattle.pd_base.specs.declared.rules.Rules.{Rules}
use Rattle.netlist.specs.Circuit.{Circuit}
use Rattle.netlist.specs.Paths.{IsPrefix, end_of, prefix_of}
use Rattle.trees.specs.Algebras.{algebra_of}
use Rattle.implication.specs.declared.assumption.Assumption.TheVariants.{Entered}
use Rattle.implication.specs.Scopes.{standing}
use Rattle.implication.specs.Standing.{ToldEnds, FollowsLinks, IsToldBy}
use Rattle.good_runs.specs.Shortest.{ClosesAtStart}
use Rattle.justify.specs.Desks.{IsDeskFor}
use Rattle.prefix_sensitize.specs.Outcomes.{target_for}
use Rattle.prefix_sensitize.proofs.ClosedStarts.{conflict_closes, no_conflict}
use Rattle.prefix_sensitize.proofs.anew.search_begun.Goals as goal

pub begin_at-scope-requires-clause-prefix : goal.begin_at-scope-requires-clause-prefix
begin_at-scope-requires-clause-prefix g c = c.requires.enter.is_path.prefix

pub search_told-requires-clause-can : goal.search_told-requires-clause-can
search_told-requires-clause-can g c =
    let begun = c.begin_at-scope.ensures.begun in let path = c.args.path.now in
    let none = no_conflict c.conflict.result (sym c.is_some.ensures ∙ c.if-is_some.false) c.conflict.ensures.none in
    let P : Circuit → Type 0 = λ n. IsPrefix n path in
    record {
      prefix = subst P (sym begun.net) c.requires.enter.is_path.prefix;
      start = record {
        beginning = begun.beginning;
        entered = begun.along.entered ∙ ap (map Entered) (take_all begun.along.count path.steps (begun.along.all none));
        free = none;
      };
      positive = c.requires.budget.positive;
      within = c.requires.budget.within;
    }

pub search_told-requires-clause-told : goal.search_told-requires-clause-told
search_told-requires-clause-told g c =
    let begun = c.begin_at-scope.ensures.begun in let e = c.args.engine.now in let new = standing c.begin_at-scope.result in
    let P : Circuit → Rules → Type 0 = λ n r. IsToldBy n (links_of r) e.ends (end_of n c.args.path.now) in
    let Q : Option ToldEnds → Type 0 = λ ends. IsToldBy new.net (links_of new.rules) ends (end_of new.net c.args.path.now) in
    subst Q (sym begun.ends) (subst₂ P (sym begun.net) (sym begun.rules) c.requires.told)

pub search_told-requires-clause-follows : goal.search_told-requires-clause-follows
search_told-requires-clause-follows g c =
    let P : Option ToldEnds → Type 0 = λ ends. FollowsLinks ends in subst P (sym c.begin_at-scope.ensures.begun.ends) c.requires.follows

pub search_told-requires-clause-desk : goal.search_told-requires-clause-desk
search_told-requires-clause-desk g c =
    let begun = c.begin_at-scope.ensures.begun in
    let P : Circuit → Rules → Type 0 = λ n r. IsDeskFor g.A.Algebra.algebra n r c.args.desk.now in
    subst₂ P (sym begun.net) (sym begun.rules) c.requires.desk

pub returns-clause-desk : goal.returns-clause-desk
returns-clause-desk g c =
    let begun = c.begin_at-scope.ensures.begun in
    let P : Circuit → Rules → Type 0 = λ n r. IsDeskFor g.A.Algebra.algebra n r c.search_told.new.desk in
    subst₂ P begun.net begun.rules c.search_told.ensures.desk

pub unreachable-requires : goal.unreachable-requires
unreachable-requires g c =
    let begun = c.begin_at-scope.ensures.begun in let new = standing c.begin_at-scope.result in
    let aim = c.args.aim in let path = c.args.path.now in let count = begun.along.count in
    let P : Circuit → Rules → Type 0 = λ n r. ClosesAtStart n r (target_for aim (prefix_of count path)) in
    c.requires.enter.left_open count begun.along.within (subst₂ P begun.net begun.rules
    (conflict_closes g.A.Algebra.algebra new (c.requires.desk.of_rules ∙ ap algebra_of (sym begun.rules)) path aim count
    begun.beginning begun.along.entered c.conflict.result (sym c.is_some.ensures ∙ c.if-is_some.true) c.conflict.ensures.emptied))
