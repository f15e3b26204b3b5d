-- The walk begins with nothing found for its aim, and ends with an outcome for each path that needs one.
use Rattle.std.proofs.Common.{◌≡◌, ℕ, Bool, List, length, sym, subst}
use Rattle.netlist.specs.Circuit.{Circuit}
use Rattle.netlist.specs.Lawful.{IsCircuit}
use Rattle.prefix_sensitize.specs.declared.course.Course.{Course}
use Rattle.prefix_sensitize.specs.Outcomes.{AreOutcomes}
use Rattle.prefix_sensitize.specs.PathOrder.{IsOrder}
use Rattle.prefix_sensitize.specs.Walks.{AreExcused}
use Rattle.prefix_sensitize.proofs.Counting.{none_counted}
use Rattle.prefix_sensitize.proofs.Passing.{adds_alone, all_outcomes, come_none}
use Rattle.prefix_sensitize.proofs.Ready.{ready_again}
use Rattle.prefix_sensitize.proofs.walking.walk.Goals as goal

pub walk_course-requires : goal.walk_course-requires
walk_course-requires g c κs lives =
    let engine = c.args.engine.now in
    let listed = c.args.listed.now in
    let course : Course = record { alloc = listed.alloc; paths = listed.paths; order = c.order.result; needed = c.as_slice.result; aim = c.args.aim } in
    let C : Circuit → Type 0 = λ n. IsCircuit n in
    let O : List ℕ → Type 0 = λ order. IsOrder c.args.listed.now.paths.now order in
    let N : List Bool → Type 0 = λ needed. length needed ≡ length c.args.listed.now.paths.now in
    let X : List Bool → Type 0 = λ needed. AreExcused engine.net engine.rules c.args.aim c.args.listed.now.paths.now needed in (
      lives.0,
      (
        lives.1.0,
        (
          lives.1.1,
          (
            c.requires.ready.idle,
            (
              record {
                is_course = record {
                  circuit = subst C c.net.ensures c.lines.ensures.circuit;
                  fit = c.requires.ready.desk.fit;
                  searchable = c.requires.ready.listed;
                  told = c.requires.ready.told;
                  order = subst O (sym c.order.ensures) c.requires.ready.tree.order;
                  one_each = subst N (sym c.as_slice.ensures.value) c.requires.asked.one_each;
                  excused = subst X (sym c.as_slice.ensures.value) c.requires.asked.excused;
                  budget = c.requires.ready.within;
                };
                is_desk = c.requires.ready.desk;
                room = c.requires.room;
              },
              come_none engine.net engine.rules course (record { outcomes = c.in_ok-outcomes.outcomes; proofs = c.args.proofs }) c.args.steps.now
                  c.in_ok-outcomes.ensures c.requires.before.found c.requires.before.fresh,
            ),
          ),
        ),
      ),
    )

pub returns-clause-found : goal.returns-clause-found
returns-clause-found g c =
    let engine = c.args.engine.now in
    let listed = c.args.listed.now in
    let course : Course = record { alloc = listed.alloc; paths = listed.paths; order = c.order.result; needed = c.as_slice.result; aim = c.args.aim } in
    let after = c.walk_course.new.found in
    let come = c.in_ok-walk_course.ensures.come in
    let O : List ℕ → Type 0 = λ order. IsOrder listed.paths.now order in
    let N : List Bool → Type 0 =
    λ needed. AreOutcomes engine.net engine.rules listed.paths.now after.proofs.items needed c.args.aim after.outcomes.items in
    record {
      outcomes = subst N c.as_slice.ensures.value
          (all_outcomes engine.net engine.rules course (subst O (sym c.order.ensures) c.requires.ready.tree.order) c.args.steps.now after
          c.walk_course.new.steps come);
      proofs = come.come.found;
      adds =
          adds_alone c.args.aim c.args.proofs.items after.proofs.items c.requires.before.fresh c.in_ok-walk_course.ensures.others;
    }

pub returns-clause-ready : goal.returns-clause-ready
returns-clause-ready g c =
    ready_again g.A.Algebra.algebra c.args.listed.now c.args.aim.budget c.args.engine.now c.walk_course.new.engine c.args.desk.now
    c.walk_course.new.desk c.requires.ready c.in_ok-walk_course.ensures.rest c.in_ok-walk_course.ensures.desk

pub returns-clause-rest : goal.returns-clause-rest
returns-clause-rest g c = c.in_ok-walk_course.ensures.rest

pub returns-in_err-outcomes-clause-counted : goal.returns-in_err-outcomes-clause-counted
returns-in_err-outcomes-clause-counted g c = none_counted c.args.listed.now.paths.now c.args.steps.now

pub returns-in_err-walk_course-clause-counted : goal.returns-in_err-walk_course-clause-counted
returns-in_err-walk_course-clause-counted g c = c.walk_course.ensures.counted

pub returns-clause-counted : goal.returns-clause-counted
returns-clause-counted g c = c.in_ok-walk_course.ensures.counted
