-- One path after another is visited, as long as they begin at the source.
use Rattle.std.proofs.Common.{◌≡◌, ⊎_elim, ℕ, ◌<◌, ◌≤◌, true≢false, List, [], refl, sym, subst, subst₂, ◌∙◌, arith}
use Rattle.std.proofs.lemmas.Bool.{cases_lt}
use Rattle.std.proofs.lemmas.Option.{slice_get_within}
use Rattle.pd_base.specs.declared.rules.Rules.{Rules}
use Rattle.pd_base.specs.declared.ids.PinRef.{PinRef}
use Rattle.netlist.specs.Circuit.{Circuit}
use Rattle.implication.specs.Scopes.{standing}
use Rattle.implication.proofs.Restoring.{same_scope_twice}
use Rattle.justify.specs.Desks.{IsDeskFor}
use Rattle.prefix_sensitize.specs.Coming.{HasComeAlong}
use Rattle.prefix_sensitize.specs.Courses.{BeginsAt}
use Rattle.prefix_sensitize.proofs.Along.{begun_at, come_behind, same_course}
use Rattle.prefix_sensitize.proofs.Descents.{same_twice}
use Rattle.prefix_sensitize.proofs.Passing.{all_counted, come_from, keeps_none, keeps_on}
use Rattle.prefix_sensitize.proofs.walking.walk_from.Goals as goal

pub paths-init : goal.paths-init
paths-init g c =
    let course = c.args.course.now in
    let place = c.args.place in
    let old = standing c.args.scope.now in
    let is_course = c.requires.1.1.1.1.1.0.is_course in
    let at = c.requires.1.1.1.1.1.1.0 in
    let within = slice_get_within course.order.now place at.row at.stands.is_placed in
    let P : List PinRef → Type 0 =
    λ pins. HasComeAlong old course g.begin place pins c.args.found.now c.args.steps.now in
    record {
      scope = record { engine = refl; origin = refl };
      same = record { net = refl; rules = refl; ends = refl; beginning = refl };
      desk = c.requires.1.1.1.1.1.0.is_desk;
      come =
          subst P (sym c.new-descent.ensures)
          (record {
            source = c.args.source;
            gone = c.requires.1.1.1.1.0;
            come =
                come_from old.net old.rules course is_course.order g.begin place c.args.found.now
                c.args.steps.now c.args.source c.requires.1.1.1.1.1.1.1;
          });
      others = keeps_none course.aim c.args.found.now.proofs.items;
      behind = omega arith;
      within = omega (arith, within);
    }

pub visit_and_lift-requires : goal.visit_and_lift-requires
visit_and_lift-requires g c κs lives =
    let course = c.args.course.now in
    let old = standing c.args.scope.now in
    let new = standing c.paths.scope in
    let same = c.paths.invariant.same in
    let can = c.requires.1.1.1.1.1.0 in
    let P : Circuit → Rules → Type 0 = λ n r. IsDeskFor g.A.Algebra.algebra n r c.paths.desk in (
      lives.0,
      (
        lives.1.0,
        (
          lives.1.1,
          (
            c.paths.invariant.scope.origin ∙ c.requires.1.1.1.0,
            (
              record {
                is_course = same_course old new same course can.is_course;
                is_desk = subst₂ P (sym same.net) (sym same.rules) c.paths.invariant.desk;
                room = can.room;
              },
              (
                c.paths.invariant.come,
                (
                  begun_at old new same course c.args.source [] c.requires.1.1.1.1.0 c.paths.at
                      (c.begins_at.ensures.0 c.paths-test.true),
                  c.begins_at.ensures.0 c.paths-test.true,
                ),
              ),
            ),
          ),
        ),
      ),
    )

pub paths-preserved : goal.paths-preserved
paths-preserved g c =
    let before = c.paths.invariant in
    let after = c.in_ok-at.ensures in
    let P : Circuit → Rules → Type 0 = λ n r. IsDeskFor g.A.Algebra.algebra n r c.visit_and_lift.new.desk in
    let low = before.behind in
    let on = after.on.on in
    record {
      scope = same_scope_twice before.scope after.scope;
      same =
          same_twice (standing c.args.scope.now) (standing c.paths.scope) (standing c.visit_and_lift.new.scope) before.same
          after.walked.same;
      desk = subst₂ P before.same.net before.same.rules after.walked.is_desk;
      come = after.come;
      others =
          keeps_on c.args.course.now.aim c.args.found.now.proofs.items c.paths.found.proofs.items
          c.visit_and_lift.new.found.proofs.items before.others after.on.others;
      behind = omega (arith, low, on);
      within = after.on.within;
    }

pub paths-smaller : goal.paths-smaller
paths-smaller g c =
    let on = c.in_ok-at.ensures.on.on in
    let within = c.in_ok-at.ensures.on.within in
    omega (arith, on, within)

pub begins_at-requires : goal.begins_at-requires
begins_at-requires g c = c.requires.1.1.1.1.1.0.is_course.order.inside

pub returns-in_err-at-clause-scope : goal.returns-in_err-at-clause-scope
returns-in_err-at-clause-scope g c = same_scope_twice c.paths.invariant.scope c.visit_and_lift.ensures.scope

pub returns-clause-come : goal.returns-clause-come
returns-clause-come g c =
    come_behind (standing c.args.scope.now) (standing c.paths.scope) c.paths.invariant.same c.args.course.now c.requires.1.1.1.1.1.0.is_course
    c.args.source [] c.requires.1.1.1.1.0 g.begin c.paths.at c.paths.descent c.paths.found c.paths.steps
    c.paths.invariant.come
    (λ at. true≢false (sym (c.begins_at.ensures.1 at) ∙ c.paths-test.false))

pub returns-in_err-at-clause-walked : goal.returns-in_err-at-clause-walked
returns-in_err-at-clause-walked g c = record {
  is_desk =
      (let P : Circuit → Rules → Type 0 = λ n r. IsDeskFor g.A.Algebra.algebra n r c.visit_and_lift.new.desk in
      subst₂ P c.paths.invariant.same.net c.paths.invariant.same.rules c.visit_and_lift.ensures.walked.is_desk);
  same =
      (same_twice (standing c.args.scope.now) (standing c.paths.scope) (standing c.visit_and_lift.new.scope) c.paths.invariant.same
      c.visit_and_lift.ensures.walked.same);
  counted = c.visit_and_lift.ensures.walked.counted;
}

pub returns-clause-walked : goal.returns-clause-walked
returns-clause-walked g c = record {
  is_desk = c.paths.invariant.desk;
  same = c.paths.invariant.same;
  counted =
      (let new = standing c.paths.scope in
      let come = c.paths.invariant.come in
      all_counted new.net new.rules c.args.course.now g.begin c.paths.at c.paths.found c.paths.steps come.come.come);
}

pub returns-clause-on : goal.returns-clause-on
returns-clause-on g c = record {
  on =
      (⊎_elim (λ (less : c.args.place < c.paths.at). less)
      (λ (not : c.paths.at ≤ c.args.place).
      let low = c.paths.invariant.behind in
      let same : c.args.place ≡ c.paths.at = omega (arith, not, low) in
      let P : ℕ → Type 0 = λ n. BeginsAt c.args.course.now n c.args.source in
      absurd (true≢false (sym (c.begins_at.ensures.1 (subst P same c.requires.1.1.1.1.1.1.0)) ∙ c.paths-test.false)))
      (cases_lt c.args.place c.paths.at));
  within = c.paths.invariant.within;
  others = c.paths.invariant.others;
}
