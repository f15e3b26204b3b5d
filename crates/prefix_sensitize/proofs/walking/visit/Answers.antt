-- The path at this place is passed by or visited.
use Rattle.std.proofs.Common.{ℕ, false, true≢false, IfOk, get_or, refl, sym, ap, subst, ◌∙◌, arith}
use Rattle.std.proofs.lemmas.Option.{get_or_from_slice_get, slice_get_within}
use Rattle.std.proofs.lemmas.Result.{IfOk-weaker}
use Rattle.pd_base.specs.Route.{Route}
use Rattle.implication.specs.Scopes.{standing}
use Rattle.prefix_sensitize.specs.Coming.{HasComeAlong}
use Rattle.prefix_sensitize.specs.Walking.{ComesOn}
use Rattle.prefix_sensitize.specs.PathOrder.{StandsInOrder}
use Rattle.prefix_sensitize.specs.Settling.{HasItsSteps, Settles}
use Rattle.prefix_sensitize.proofs.Along.{counted_on, gone_to, its_steps, room_for, visited_along}
use Rattle.prefix_sensitize.proofs.Descents.{same_at_once}
use Rattle.prefix_sensitize.proofs.Passing.{all_counted, come_past, keeps_none}
use Rattle.prefix_sensitize.proofs.PathOrder.{stands_once, stands_there}
use Rattle.prefix_sensitize.proofs.walking.visit.Given.{Over}
use Rattle.prefix_sensitize.proofs.walking.visit.Goals.{After-settle}
use Rattle.prefix_sensitize.proofs.walking.visit.Goals as goal

pub returns-then-not-course-row-clause-come : goal.returns-then-not-course-row-clause-come
returns-then-not-course-row-clause-come g c =
    let course = c.args.course.now in
    let place = c.args.place in
    let old = standing c.args.scope.now in
    let come = c.requires.1.1.1.1.1.0 in
    let at = c.requires.1.1.1.1.1.1 in
    record {
      source = come.source;
      gone = come.gone;
      come =
          come_past old.net old.rules course c.requires.1.1.1.1.0.is_course.order g.begin place c.args.found.now c.args.steps.now
          at.row at.route at.stands
          (λ need.
          let same = get_or_from_slice_get course.order.now place at.row 0 at.stands.is_placed in
          true≢false (sym need ∙ ap (λ (n : ℕ). get_or course.needed.now n false) (sym same) ∙ c.if-not-course-row.true))
          (record { source = come.source; steps = c.args.descent.now }) come.come;
    }

pub returns-in_err-ended-clause-scope : goal.returns-in_err-ended-clause-scope
returns-in_err-ended-clause-scope g c = c.search.ensures.scope

pub returns-clause-scope : goal.returns-clause-scope
returns-clause-scope g c = c.in_ok-ended.ensures.scope

pub search-requires-clause-begun : goal.search-requires-clause-begun
search-requires-clause-begun g c = c.requires.1.1.1.0

pub settle-requires-clause-order : goal.settle-requires-clause-order
settle-requires-clause-order g c = c.requires.1.1.1.1.0.is_course.order

pub settle-requires-clause-few : goal.settle-requires-clause-few
settle-requires-clause-few g c = let few = c.requires.1.1.1.1.0.is_course.searchable.few in omega (arith, few)

pub settle-requires-clause-short : goal.settle-requires-clause-short
settle-requires-clause-short g c = c.requires.1.1.1.1.0.is_course.searchable.short

pub settle-requires-clause-one_each : goal.settle-requires-clause-one_each
settle-requires-clause-one_each g c = let come = c.requires.1.1.1.1.1.0 in come.come.come.one_each

pub settle-requires-clause-place : goal.settle-requires-clause-place
settle-requires-clause-place g c =
    let at = c.requires.1.1.1.1.1.1 in
    slice_get_within c.args.course.now.order.now c.args.place at.row at.stands.is_placed

pub settle-requires-clause-steps : goal.settle-requires-clause-steps
settle-requires-clause-steps g c row route stands =
    let course = c.args.course.now in
    let place = c.args.place in
    let at = c.requires.1.1.1.1.1.1 in
    let old = standing c.args.scope.now in
    let within = slice_get_within course.order.now place at.row at.stands.is_placed in
    let path = get_or course.paths.now (get_or course.order.now place 0) c.index-course-row.result in
    let here = stands_there course.paths.now course.order.now c.requires.1.1.1.1.0.is_course.order.inside place 0 c.index-course-row.result within in
    let P : Route → Type 0 = λ r. HasItsSteps r c.in_ok-ended.ended.steps c.in_ok-ended.ended.found in
    subst P (stands_once course.paths.now course.order.now place (get_or course.order.now place 0) row path route here stands).1
    (its_steps old.net old.rules course.aim path c.in_ok-ended.ended.steps c.in_ok-ended.ended.found
    c.in_ok-ended.ensures.searched.is_found)

-- once the end of the search is settled, the walk has come on
module _ (g : Over) (c : After-settle g) where
  abbrev Comes : ℕ → Type 0
  Comes end =
      HasComeAlong (standing c.search.new.scope) c.args.course.now g.begin end c.search.new.self c.settle.new.found c.search.new.steps
      × ComesOn c.args.course.now c.args.place end c.args.found.now c.settle.new.found

  comes_on : IfOk c.settle.result Comes
  comes_on =
      let course = c.args.course.now in
      let place = c.args.place in
      let is_course = c.requires.1.1.1.1.0.is_course in
      let at = c.requires.1.1.1.1.1.1 in
      let within = slice_get_within course.order.now place at.row at.stands.is_placed in
      let row = get_or course.order.now place 0 in
      let path = get_or course.paths.now row c.index-course-row.result in
      let here = stands_there course.paths.now course.order.now is_course.order.inside place 0 c.index-course-row.result within in
      let searched = c.in_ok-ended.ensures.searched in
      IfOk-weaker c.settle.result
      (λ (end : ℕ). (row : ℕ) (route : Route) → StandsInOrder course.paths.now course.order.now place row route
      → Settles course place row route c.in_ok-ended.ended.steps c.in_ok-ended.ended.found end c.args.found.now.outcomes.items c.settle.new.found.outcomes.items
      c.args.found.now.proofs.items c.settle.new.found.proofs.items)
      Comes
      (λ end settles.
      visited_along (standing c.args.scope.now) course is_course g.begin place row path here c.args.descent.now c.args.found.now
      c.args.steps.now c.requires.1.1.1.1.1.0 at (standing c.search.new.scope) c.in_ok-ended.ensures.same c.search.new.self
      c.in_ok-ended.ended searched.is_found searched.gone c.search.new.steps searched.moved end c.settle.new.found (settles row path here))
      c.settle.ensures

pub returns-clause-come : goal.returns-clause-come
returns-clause-come g c =
    let at = (goal.at.returns-clause-come g c).After-settle in
    IfOk-weaker c.settle.result (Comes g at)
    (λ (end : ℕ). HasComeAlong (standing c.search.new.scope) c.args.course.now g.begin end c.search.new.self c.settle.new.found
    c.search.new.steps)
    (λ end on. on.0) (comes_on g at)

pub returns-clause-on : goal.returns-clause-on
returns-clause-on g c =
    let at = (goal.at.returns-clause-on g c).After-settle in
    IfOk-weaker c.settle.result (Comes g at)
    (λ (end : ℕ). ComesOn c.args.course.now c.args.place end c.args.found.now c.settle.new.found) (λ end on. on.1) (comes_on g at)

pub bounds-course-place : goal.bounds-course-place
bounds-course-place g c =
    let at = c.requires.1.1.1.1.1.1 in
    slice_get_within c.args.course.now.order.now c.args.place at.row at.stands.is_placed

pub bounds-course-row : goal.bounds-course-row
bounds-course-row g c =
    let at = c.requires.1.1.1.1.1.1 in
    let within = slice_get_within c.args.course.now.order.now c.args.place at.row at.stands.is_placed in
    let inside = c.requires.1.1.1.1.0.is_course.order.inside c.args.place 0 within in
    omega (arith, inside, c.requires.1.1.1.1.0.is_course.one_each)

pub bounds-course-row-2 : goal.bounds-course-row-2
bounds-course-row-2 g c =
    let at = c.requires.1.1.1.1.1.1 in
    c.requires.1.1.1.1.0.is_course.order.inside c.args.place 0
    (slice_get_within c.args.course.now.order.now c.args.place at.row at.stands.is_placed)

pub overflow_add-result : goal.overflow_add-result
overflow_add-result g c =
    let at = c.requires.1.1.1.1.1.1 in
    let within = slice_get_within c.args.course.now.order.now c.args.place at.row at.stands.is_placed in
    let few = c.requires.1.1.1.1.0.is_course.searchable.few in
    omega (arith, within, c.requires.1.1.1.1.0.is_course.order.one_each, few)

pub returns-then-not-course-row-clause-scope : goal.returns-then-not-course-row-clause-scope
returns-then-not-course-row-clause-scope g c = record { engine = refl; origin = refl }

pub returns-then-not-course-row-clause-walked : goal.returns-then-not-course-row-clause-walked
returns-then-not-course-row-clause-walked g c = record {
  is_desk = c.requires.1.1.1.1.0.is_desk;
  same = same_at_once (standing c.args.scope.now);
  counted =
      (let old = standing c.args.scope.now in
      let come = c.requires.1.1.1.1.1.0 in
      all_counted old.net old.rules c.args.course.now g.begin c.args.place c.args.found.now c.args.steps.now
      come.come.come);
}

pub returns-in_err-ended-clause-walked : goal.returns-in_err-ended-clause-walked
returns-in_err-ended-clause-walked g c = record {
  is_desk = c.search.ensures.desk;
  same = c.search.ensures.same;
  counted =
      (let course = c.args.course.now in
      let place = c.args.place in
      let at = c.requires.1.1.1.1.1.1 in
      let within = slice_get_within course.order.now place at.row at.stands.is_placed in
      let row = get_or course.order.now place 0 in
      counted_on (standing c.args.scope.now) course c.requires.1.1.1.1.0.is_course g.begin place row
      (get_or course.paths.now row c.index-course-row.result)
      (stands_there course.paths.now course.order.now c.requires.1.1.1.1.0.is_course.order.inside place 0 c.index-course-row.result within)
      c.args.descent.now c.args.found.now c.args.steps.now c.requires.1.1.1.1.1.0 c.search.new.steps
      c.search.ensures.counted);
}

pub returns-clause-walked : goal.returns-clause-walked
returns-clause-walked g c = record {
  is_desk = c.in_ok-ended.ensures.desk;
  same = c.in_ok-ended.ensures.same;
  counted =
      (let course = c.args.course.now in
      let place = c.args.place in
      let at = c.requires.1.1.1.1.1.1 in
      let within = slice_get_within course.order.now place at.row at.stands.is_placed in
      let row = get_or course.order.now place 0 in
      counted_on (standing c.args.scope.now) course c.requires.1.1.1.1.0.is_course g.begin place row
      (get_or course.paths.now row c.index-course-row.result)
      (stands_there course.paths.now course.order.now c.requires.1.1.1.1.0.is_course.order.inside place 0 c.index-course-row.result within)
      c.args.descent.now c.args.found.now c.args.steps.now c.requires.1.1.1.1.1.0 c.search.new.steps
      c.search.ensures.counted);
}

pub returns-then-not-course-row-clause-on : goal.returns-then-not-course-row-clause-on
returns-then-not-course-row-clause-on g c = record {
  on = omega arith;
  within = (let at = c.requires.1.1.1.1.1.1 in
      let within = slice_get_within c.args.course.now.order.now c.args.place at.row at.stands.is_placed in
      omega (arith, within));
  others = keeps_none c.args.course.now.aim c.args.found.now.proofs.items;
}

pub search-requires-clause-can : goal.search-requires-clause-can
search-requires-clause-can g c = record {
  is_path =
      (let course = c.args.course.now in
      let at = c.requires.1.1.1.1.1.1 in
      let within = slice_get_within course.order.now c.args.place at.row at.stands.is_placed in
      c.requires.1.1.1.1.0.is_course.searchable.are_paths (get_or course.order.now c.args.place 0) c.index-course-row.result
      (c.requires.1.1.1.1.0.is_course.order.inside c.args.place 0 within));
  is_told =
      (let course = c.args.course.now in
      let at = c.requires.1.1.1.1.1.1 in
      let within = slice_get_within course.order.now c.args.place at.row at.stands.is_placed in
      c.requires.1.1.1.1.0.is_course.told (get_or course.order.now c.args.place 0) c.index-course-row.result
      (c.requires.1.1.1.1.0.is_course.order.inside c.args.place 0 within));
  is_desk = c.requires.1.1.1.1.0.is_desk;
  is_budget = c.requires.1.1.1.1.0.is_course.budget;
  gone =
      (let course = c.args.course.now in
      let place = c.args.place in
      let at = c.requires.1.1.1.1.1.1 in
      let within = slice_get_within course.order.now place at.row at.stands.is_placed in
      let row = get_or course.order.now place 0 in
      let path = get_or course.paths.now row c.index-course-row.result in
      gone_to (standing c.args.scope.now) course c.requires.1.1.1.1.0.is_course g.begin place row path
      (stands_there course.paths.now course.order.now c.requires.1.1.1.1.0.is_course.order.inside place 0 c.index-course-row.result within) c.args.descent.now
      c.args.found.now c.args.steps.now c.requires.1.1.1.1.1.0 at);
  room =
      (let course = c.args.course.now in
      let place = c.args.place in
      let at = c.requires.1.1.1.1.1.1 in
      let within = slice_get_within course.order.now place at.row at.stands.is_placed in
      let row = get_or course.order.now place 0 in
      let path = get_or course.paths.now row c.index-course-row.result in
      room_for (standing c.args.scope.now) course c.requires.1.1.1.1.0.is_course g.begin place row path
      (stands_there course.paths.now course.order.now c.requires.1.1.1.1.0.is_course.order.inside place 0 c.index-course-row.result within) c.args.descent.now
      c.args.found.now c.args.steps.now c.requires.1.1.1.1.1.0 c.requires.1.1.1.1.0.room);
}
