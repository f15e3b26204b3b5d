-- Each turn brings the walk behind the paths from one source.
use Rattle.std.proofs.Common.{◌≡◌, ℕ, length, Option, refl, sym, subst, subst₂, ◌∙◌, arith}
use Rattle.pd_base.specs.declared.rules.Rules.{Rules}
use Rattle.netlist.specs.Circuit.{Circuit}
use Rattle.implication.specs.Standing.{ToldEnds}
use Rattle.justify.specs.Desks.{IsDeskFor}
use Rattle.prefix_sensitize.specs.Coming.{HasComeApart}
use Rattle.prefix_sensitize.specs.Courses.{IsCourse}
use Rattle.prefix_sensitize.proofs.Passing.{all_counted, keeps_none, keeps_on}
use Rattle.prefix_sensitize.proofs.walking.walk_course.Goals as goal

pub loop-place-init : goal.loop-place-init
loop-place-init g c = record {
  rest = record { net = refl; rules = refl; ends = refl; idle = c.requires.1.1.1.0 };
  desk = c.requires.1.1.1.1.0.is_desk;
  come = c.requires.1.1.1.1.1;
  others = keeps_none c.args.course.now.aim c.args.found.now.proofs.items;
  within = omega arith;
}

pub walk_source-requires : goal.walk_source-requires
walk_source-requires g c κs lives =
    let course = c.args.course.now in
    let rest = c.loop-place.invariant.rest in
    let C : Circuit → Rules → Type 0 = λ n r. IsCourse n r c.args.engine.now.ends course in
    let E : Option ToldEnds → Type 0 = λ ends. IsCourse c.loop-place.engine.net c.loop-place.engine.rules ends course in
    let D : Circuit → Rules → Type 0 = λ n r. IsDeskFor g.A.Algebra.algebra n r c.loop-place.desk in
    let H : Circuit → Rules → Type 0 =
    λ n rules.
    HasComeApart n rules course g.begin c.loop-place.place c.loop-place.found c.loop-place.steps in (
      lives.0,
      (
        lives.1.0,
        (
          lives.1.1,
          (
            rest.idle,
            (
              record {
                is_course = subst E (sym rest.ends) (subst₂ C (sym rest.net) (sym rest.rules) c.requires.1.1.1.1.0.is_course);
                is_desk = subst₂ D (sym rest.net) (sym rest.rules) c.loop-place.invariant.desk;
                room = c.requires.1.1.1.1.0.room;
              },
              (
                omega (arith, c.loop-place-test.true),
                subst₂ H (sym rest.net) (sym rest.rules) c.loop-place.invariant.come,
              ),
            ),
          ),
        ),
      ),
    )

pub loop-place-preserved : goal.loop-place-preserved
loop-place-preserved g c =
    let course = c.args.course.now in
    let rest = c.loop-place.invariant.rest in
    let after = c.in_ok-place.ensures in
    let D : Circuit → Rules → Type 0 = λ n r. IsDeskFor g.A.Algebra.algebra n r c.walk_source.new.desk in
    let H : Circuit → Rules → Type 0 =
    λ n rules.
    HasComeApart n rules course g.begin c.in_ok-place.place c.walk_source.new.found c.walk_source.new.steps in
    record {
      rest = record {
        net = after.rest.net ∙ rest.net;
        rules = after.rest.rules ∙ rest.rules;
        ends = after.rest.ends ∙ rest.ends;
        idle = after.rest.idle;
      };
      desk = subst₂ D rest.net rest.rules after.desk;
      come = subst₂ H rest.net rest.rules after.come;
      others =
          keeps_on course.aim c.args.found.now.proofs.items c.loop-place.found.proofs.items c.walk_source.new.found.proofs.items
          c.loop-place.invariant.others after.on.others;
      within = after.on.within;
    }

pub loop-place-smaller : goal.loop-place-smaller
loop-place-smaller g c =
    let on = c.in_ok-place.ensures.on.on in
    let within = c.in_ok-place.ensures.on.within in
    omega (arith, on, within)

pub returns-clause-come : goal.returns-clause-come
returns-clause-come g c =
    let course = c.args.course.now in
    let within = c.loop-place.invariant.within in
    let end : c.loop-place.place ≡ length course.order.now = omega (arith, within, c.loop-place-test.false) in
    let P : ℕ → Type 0 =
    λ n.
    HasComeApart c.args.engine.now.net c.args.engine.now.rules course g.begin n c.loop-place.found
    c.loop-place.steps in
    subst P end c.loop-place.invariant.come

pub returns-clause-counted : goal.returns-clause-counted
returns-clause-counted g c =
    let old = c.args.engine.now in
    let come = c.loop-place.invariant.come in
    all_counted old.net old.rules c.args.course.now g.begin c.loop-place.place c.loop-place.found
    c.loop-place.steps come.come
