-- A scope is opened at the source of the path at this place, and left behind the last path from it.
use Rattle.std.proofs.Common.{ℕ, ◌+◌, ◌<◌, true≢false, [], ◌∷◌, get_or, IfOk, Option, Some, sym, ap, subst, subst₂, ◌∙◌, arith}
use Rattle.std.proofs.lemmas.Result.{IfOk-weaker}
use Rattle.pd_base.specs.Links.{links_of}
use Rattle.netlist.specs.Paths.{end_of, prefix_of}
use Rattle.trees.specs.declared.tree.Node.TheVariants.{Closed}
use Rattle.trees.specs.Algebras.{algebra_of}
use Rattle.good_runs.specs.Shortest.{ClosesAtStart}
use Rattle.state_laws.proofs.FanIns.{leads_in_fan_in}
use Rattle.implication.specs.Standing.{ToldEnds, IsToldBy}
use Rattle.implication.proofs.Told.{told_in_fan_in}
use Rattle.pd_base.specs.declared.ids.LineId.{LineId}
use Rattle.pd_base.specs.declared.rules.Rules.{Rules}
use Rattle.pd_base.specs.Route.{Route}
use Rattle.netlist.specs.Circuit.{Circuit, source_count}
use Rattle.implication.specs.Scopes.{standing}
use Rattle.justify.specs.Desks.{IsDeskFor}
use Rattle.prefix_sensitize.specs.Coming.{HasComeApart}
use Rattle.prefix_sensitize.specs.Courses.{IsCourse}
use Rattle.justify.specs.declared.answer.Found.TheVariants.{Refuted}
use Rattle.prefix_sensitize.specs.Outcomes.{target_for}
use Rattle.prefix_sensitize.specs.PathOrder.{StandsInOrder}
use Rattle.prefix_sensitize.specs.Settling.{Settles}
use Rattle.prefix_sensitize.specs.Walking.{ComesOn}
use Rattle.prefix_sensitize.proofs.ClosedStarts.{conflict_closes, no_conflict, start_settled}
use Rattle.prefix_sensitize.proofs.Passing.{all_counted, come_alone, come_from, come_past, keeps_none}
use Rattle.prefix_sensitize.proofs.PathOrder.{stands_there}
use Rattle.prefix_sensitize.proofs.walking.walk_source.Given.{Over}
use Rattle.prefix_sensitize.proofs.walking.walk_source.Goals.{After-settle_start}
use Rattle.prefix_sensitize.proofs.walking.walk_source.Goals as goal

pub returns-then-not-course-row-clause-come : goal.returns-then-not-course-row-clause-come
returns-then-not-course-row-clause-come g c =
    let course = c.args.course.now in
    let place = c.args.place in
    let old = c.args.engine.now in
    let is_order = c.requires.1.1.1.1.0.is_course.order in
    let source : LineId = record { 0 = 0 } in
    let none : Route = record { source = source; steps = [] } in
    let row = get_or course.order.now place 0 in
    come_alone old.net old.rules course is_order g.begin (place + 1) c.args.found.now c.args.steps.now source
    (come_past old.net old.rules course is_order g.begin place c.args.found.now c.args.steps.now row
    (get_or course.paths.now row none) (stands_there course.paths.now course.order.now is_order.inside place 0 none c.requires.1.1.1.1.1.0)
    (λ need. true≢false (sym need ∙ c.if-not-course-row.true)) (record { source = source; steps = [] })
    (come_from old.net old.rules course is_order g.begin place c.args.found.now c.args.steps.now source
    c.requires.1.1.1.1.1.1))

pub begin-scope-requires-clause-source : goal.begin-scope-requires-clause-source
begin-scope-requires-clause-source g c =
    let course = c.args.course.now in
    let row = get_or course.order.now c.args.place 0 in
    let path =
    c.requires.1.1.1.1.0.is_course.searchable.are_paths row c.index-course-row.result
    (c.requires.1.1.1.1.0.is_course.order.inside c.args.place 0 c.requires.1.1.1.1.1.0) in
    let P : LineId → Type 0 = λ line. line.0 < source_count c.args.engine.now.net in
    subst P (sym c.source-source.ensures) path.prefix.source

pub begin-scope-requires-clause-told : goal.begin-scope-requires-clause-told
begin-scope-requires-clause-told g c =
    let course = c.args.course.now in
    let row = get_or course.order.now c.args.place 0 in
    let path =
    c.requires.1.1.1.1.0.is_course.searchable.are_paths row c.index-course-row.result
    (c.requires.1.1.1.1.0.is_course.order.inside c.args.place 0 c.requires.1.1.1.1.1.0) in
    let net = c.args.engine.now.net in
    let ends = c.args.engine.now.ends in
    let links = links_of c.args.engine.now.rules in
    let route = get_or course.paths.now row c.index-course-row.result in
    let told =
    c.requires.1.1.1.1.0.is_course.told row c.index-course-row.result
    (c.requires.1.1.1.1.0.is_course.order.inside c.args.place 0 c.requires.1.1.1.1.1.0) in
    let P : LineId → Type 0 = λ line. IsToldBy net links ends line.0 in
    subst P (sym c.source-source.ensures)
    (told_in_fan_in net links ends (end_of net route) route.source.0 told
    (leads_in_fan_in net route.source.0 route.steps path.prefix.connects))

pub walk_from-requires : goal.walk_from-requires
walk_from-requires g c κs lives =
    let course = c.args.course.now in
    let place = c.args.place in
    let begun = c.begin-scope.ensures.begun in
    let row = get_or course.order.now place 0 in
    let C : Circuit → Rules → Type 0 = λ n r. IsCourse n r c.args.engine.now.ends course in
    let E : Option ToldEnds → Type 0 = λ ends. IsCourse (standing c.begin-scope.result).net (standing c.begin-scope.result).rules ends course in
    let D : Circuit → Rules → Type 0 = λ n r. IsDeskFor g.A.Algebra.algebra n r c.args.desk.now in
    let H : Circuit → Rules → Type 0 =
    λ n rules. HasComeApart n rules course g.begin place c.args.found.now c.args.steps.now in (
      lives.0,
      (
        lives.1.0,
        (
          lives.1.1,
          (
            c.begin-scope.ensures.origin,
            (
              record {
                beginning = begun.beginning;
                entered = begun.nothing;
                free = no_conflict c.conflict.result (sym c.is_some.ensures ∙ c.if-is_some.false) c.conflict.ensures.none;
              },
              (
                record {
                  is_course = subst E (sym begun.ends) (subst₂ C (sym begun.net) (sym begun.rules) c.requires.1.1.1.1.0.is_course);
                  is_desk = subst₂ D (sym begun.net) (sym begun.rules) c.requires.1.1.1.1.0.is_desk;
                  room = c.requires.1.1.1.1.0.room;
                },
                (
                  record {
                    row = row;
                    route = get_or course.paths.now row c.index-course-row.result;
                    stands =
                        stands_there course.paths.now course.order.now c.requires.1.1.1.1.0.is_course.order.inside place 0
                        c.index-course-row.result c.requires.1.1.1.1.1.0;
                    source = sym c.source-source.ensures;
                  },
                  subst₂ H (sym begun.net) (sym begun.rules) c.requires.1.1.1.1.1.1,
                ),
              ),
            ),
          ),
        ),
      ),
    )

-- where the start closes, the walk has come behind all paths from the source
module _ (g : Over) (c : After-settle_start g) where
  abbrev Comes : ℕ → Type 0
  Comes end =
      HasComeApart c.args.engine.now.net c.args.engine.now.rules c.args.course.now g.begin end c.settle_start.new.found c.args.steps.now
      × ComesOn c.args.course.now c.args.place end c.args.found.now c.settle_start.new.found

  comes_behind : IfOk c.settle_start.result Comes
  comes_behind =
      let course = c.args.course.now in
      let place = c.args.place in
      let old = c.args.engine.now in
      let new = standing c.begin-scope.result in
      let begun = c.begin-scope.ensures.begun in
      let is_course = c.requires.1.1.1.1.0.is_course in
      let row = get_or course.order.now place 0 in
      let route = get_or course.paths.now row c.index-course-row.result in
      let here =
      stands_there course.paths.now course.order.now is_course.order.inside place 0 c.index-course-row.result c.requires.1.1.1.1.1.0 in
      let of_rules = c.requires.1.1.1.1.0.is_desk.of_rules ∙ ap algebra_of (sym begun.rules) in
      let began = begun.beginning ∙ (λ i. Some (record { source = c.source-source.ensures i; direction = course.aim.direction; kind = course.aim.kind })) in
      let Closing : Circuit → Rules → Type 0 = λ n r. ClosesAtStart n r (target_for course.aim (prefix_of 0 route)) in
      let closes : Closing old.net old.rules =
      subst₂ Closing begun.net begun.rules
      (conflict_closes g.A.Algebra.algebra new of_rules route course.aim 0 began begun.nothing c.conflict.result
      (sym c.is_some.ensures ∙ c.if-is_some.true) c.conflict.ensures.emptied) in
      IfOk-weaker c.settle_start.result
      (λ (end : ℕ). (row : ℕ) (route : Route) → StandsInOrder course.paths.now course.order.now place row route
      → Settles course place row route 0 (Refuted (Closed ∷ [])) end c.args.found.now.outcomes.items c.settle_start.new.found.outcomes.items
      c.args.found.now.proofs.items c.settle_start.new.found.proofs.items)
      Comes
      (λ end settles.
      start_settled old.net old.rules old.ends course is_course g.begin place row route here closes c.args.found.now c.settle_start.new.found
      c.args.steps.now c.requires.1.1.1.1.1.1 end (settles row route here))
      c.settle_start.ensures

pub returns-then-is_some-clause-come : goal.returns-then-is_some-clause-come
returns-then-is_some-clause-come g c =
    let at = (goal.at.returns-then-is_some-clause-come g c).After-settle_start in
    let course = c.args.course.now in
    let old = c.args.engine.now in
    IfOk-weaker c.settle_start.result (Comes g at)
    (λ (end : ℕ). HasComeApart old.net old.rules course g.begin end c.settle_start.new.found c.args.steps.now) (λ end on. on.0)
    (comes_behind g at)

pub returns-then-is_some-clause-on : goal.returns-then-is_some-clause-on
returns-then-is_some-clause-on g c =
    let at = (goal.at.returns-then-is_some-clause-on g c).After-settle_start in
    IfOk-weaker c.settle_start.result (Comes g at)
    (λ (end : ℕ). ComesOn c.args.course.now c.args.place end c.args.found.now c.settle_start.new.found) (λ end on. on.1) (comes_behind g at)

pub returns-clause-desk : goal.returns-clause-desk
returns-clause-desk g c =
    let D : Circuit → Rules → Type 0 = λ n r. IsDeskFor g.A.Algebra.algebra n r c.walk_from.new.desk in
    subst₂ D c.begin-scope.ensures.begun.net c.begin-scope.ensures.begun.rules c.walk_from.ensures.walked.is_desk

pub returns-clause-come : goal.returns-clause-come
returns-clause-come g c =
    let course = c.args.course.now in
    let old = c.args.engine.now in
    let new = standing c.begin-scope.result in
    let begun = c.begin-scope.ensures.begun in
    IfOk-weaker c.walk_from.result
    (λ (end : ℕ). HasComeApart new.net new.rules course g.begin end c.walk_from.new.found c.walk_from.new.steps)
    (λ (end : ℕ). HasComeApart old.net old.rules course g.begin end c.walk_from.new.found c.walk_from.new.steps)
    (λ end come.
    let H : Circuit → Rules → Type 0 =
    λ n rules. HasComeApart n rules course g.begin end c.walk_from.new.found c.walk_from.new.steps in
    subst₂ H begun.net begun.rules come)
    c.walk_from.ensures.come

pub returns-then-not-course-row-clause-counted : goal.returns-then-not-course-row-clause-counted
returns-then-not-course-row-clause-counted g c =
    let old = c.args.engine.now in
    let come = c.requires.1.1.1.1.1.1 in
    all_counted old.net old.rules c.args.course.now g.begin c.args.place c.args.found.now c.args.steps.now
    come.come

pub bounds-course-row : goal.bounds-course-row
bounds-course-row g c =
    let inside = c.requires.1.1.1.1.0.is_course.order.inside c.args.place 0 c.requires.1.1.1.1.1.0 in omega (arith, inside, c.requires.1.1.1.1.0.is_course.one_each)

pub bounds-course-row-2 : goal.bounds-course-row-2
bounds-course-row-2 g c = c.requires.1.1.1.1.0.is_course.order.inside c.args.place 0 c.requires.1.1.1.1.1.0

pub overflow_add-result : goal.overflow_add-result
overflow_add-result g c =
    let place = c.requires.1.1.1.1.1.0 in
    let few = c.requires.1.1.1.1.0.is_course.searchable.few in
    omega (arith, place, c.requires.1.1.1.1.0.is_course.order.one_each, few)

pub returns-then-not-course-row-clause-on : goal.returns-then-not-course-row-clause-on
returns-then-not-course-row-clause-on g c = record {
  on = omega arith;
  within = (let place = c.requires.1.1.1.1.1.0 in omega (arith, place));
  others = keeps_none c.args.course.now.aim c.args.found.now.proofs.items;
}

pub returns-clause-counted : goal.returns-clause-counted
returns-clause-counted g c = c.walk_from.ensures.walked.counted
