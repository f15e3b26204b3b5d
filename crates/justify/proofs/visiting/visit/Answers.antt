-- The place is shut out, or the node there is visited.
use Rattle.implication.specs.Moves.{start_at}
use Rattle.implication.specs.Scopes.{standing}
use Rattle.pair_judging.specs.Targets.{seen_target}
use Rattle.justify.proofs.Suiting.{ended_before}
use Rattle.justify.proofs.GoingOn.{next_late, next_at_mark, next_at_source, next_told, next_within, next_begun, next_open, next_kept, other_desk, shut_goes_on, shut_visited, entered_place, entered_setting, entered_suits, entered_desk, entered_goes_on, node_visited}
use Rattle.justify.proofs.visiting.visit.Goals as goal

pub enter-requires-clause-can : goal.enter-requires-clause-can
enter-requires-clause-can g c = record {
  late = next_late g.A.Algebra.algebra c.args.task.now (standing c.args.scope.now) c.args.desk.now c.args.growth.now c.args.place.now c.requires.searching (start_at c.args.scope.now.origin) c.requires.origin;
  reached = next_at_mark g.A.Algebra.algebra c.args.task.now (standing c.args.scope.now) c.args.desk.now c.args.growth.now c.args.place.now c.requires.searching;
  is_source = next_at_source g.A.Algebra.algebra c.args.task.now (standing c.args.scope.now) c.args.desk.now c.args.growth.now c.args.place.now c.requires.searching;
  told = next_told g.A.Algebra.algebra c.args.task.now (standing c.args.scope.now) c.args.desk.now c.args.growth.now c.args.place.now c.requires.searching;
  within = next_within g.A.Algebra.algebra c.args.task.now (standing c.args.scope.now) c.args.desk.now c.args.growth.now c.args.place.now c.requires.searching;
  begun = next_begun g.A.Algebra.algebra c.args.task.now (standing c.args.scope.now) c.args.desk.now c.args.growth.now c.args.place.now c.requires.searching;
  free = c.requires.searching.under_way.free;
  left_open = next_open g.A.Algebra.algebra c.args.task.now (standing c.args.scope.now) c.args.desk.now c.args.growth.now c.args.place.now c.requires.searching;
}

pub enter-requires-clause-kept : goal.enter-requires-clause-kept
enter-requires-clause-kept g c =
    next_kept g.A.Algebra.algebra c.args.task.now (standing c.args.scope.now) c.args.desk.now c.args.growth.now c.args.place.now c.requires.searching

pub enter-requires-clause-prefix : goal.enter-requires-clause-prefix
enter-requires-clause-prefix g c = c.requires.searching.suits.prefix

pub enter-requires-clause-desk : goal.enter-requires-clause-desk
enter-requires-clause-desk g c = c.requires.searching.serves

pub visit_node-requires-clause-suits : goal.visit_node-requires-clause-suits
visit_node-requires-clause-suits g c =
    entered_suits g.A.Algebra.algebra c.args.task.now (standing c.args.scope.now) c.args.desk.now c.args.growth.now c.args.place.now c.requires.searching
    (standing c.enter.new.scope) (c.enter.ensures.entered c.if-enter.true)

pub visit_node-requires-clause-stands : goal.visit_node-requires-clause-stands
visit_node-requires-clause-stands g c =
    entered_place g.A.Algebra.algebra c.args.task.now (standing c.args.scope.now) c.args.desk.now c.args.growth.now c.args.place.now c.requires.searching
    (standing c.enter.new.scope) (c.enter.ensures.entered c.if-enter.true)

pub visit_node-requires-clause-desk : goal.visit_node-requires-clause-desk
visit_node-requires-clause-desk g c =
    entered_desk g.A.Algebra.algebra c.args.task.now (standing c.args.scope.now) c.enter.new.desk c.args.growth.now c.args.place.now
    (other_desk g.A.Algebra.algebra c.args.task.now (standing c.args.scope.now) c.args.desk.now c.enter.new.desk _ c.args.growth.now
    c.requires.searching c.enter.ensures.desk)
    (standing c.enter.new.scope) (c.enter.ensures.entered c.if-enter.true)

pub visit_node-requires-clause-budget : goal.visit_node-requires-clause-budget
visit_node-requires-clause-budget g c = c.requires.searching.growing.within

pub returns-then-enter-clause-goes_on : goal.returns-then-enter-clause-goes_on
returns-then-enter-clause-goes_on g c =
    entered_goes_on g.A.Algebra.algebra c.args.task.now (standing c.args.scope.now) c.args.desk.now c.args.growth.now c.args.place.now c.requires.searching
    (standing c.enter.new.scope) (c.enter.ensures.entered c.if-enter.true)
    (standing c.visit_node.new.scope) c.visit_node.ensures.restored c.visit_node.new.desk c.visit_node.ensures.desk

pub returns-then-enter-clause-answer : goal.returns-then-enter-clause-answer
returns-then-enter-clause-answer g c =
    node_visited g.A.Algebra.algebra c.args.task.now (standing c.args.scope.now) c.args.desk.now c.args.growth.now c.args.place.now c.requires.searching
    (standing c.enter.new.scope) (c.enter.ensures.entered c.if-enter.true)
    (standing c.visit_node.new.scope) c.visit_node.ensures.restored c.visit_node.new.growth c.visit_node.result c.visit_node.ensures.answer

pub returns-in_ok-add_closed-clause-goes_on : goal.returns-in_ok-add_closed-clause-goes_on
returns-in_ok-add_closed-clause-goes_on g c =
    shut_goes_on g.A.Algebra.algebra c.args.task.now (standing c.args.scope.now) c.enter.new.desk c.args.growth.now c.args.place.now
    (other_desk g.A.Algebra.algebra c.args.task.now (standing c.args.scope.now) c.args.desk.now c.enter.new.desk _ c.args.growth.now
    c.requires.searching c.enter.ensures.desk)
    (standing c.enter.new.scope) (c.enter.ensures.shut c.if-enter.false) c.enter.ensures.later

pub returns-in_err-add_closed-clause-goes_on : goal.returns-in_err-add_closed-clause-goes_on
returns-in_err-add_closed-clause-goes_on g c =
    shut_goes_on g.A.Algebra.algebra c.args.task.now (standing c.args.scope.now) c.enter.new.desk c.args.growth.now c.args.place.now
    (other_desk g.A.Algebra.algebra c.args.task.now (standing c.args.scope.now) c.args.desk.now c.enter.new.desk _ c.args.growth.now
    c.requires.searching c.enter.ensures.desk)
    (standing c.enter.new.scope) (c.enter.ensures.shut c.if-enter.false) c.enter.ensures.later

pub returns-in_ok-add_closed-clause-answer : goal.returns-in_ok-add_closed-clause-answer
returns-in_ok-add_closed-clause-answer g c =
    shut_visited g.A.Algebra.algebra c.args.task.now (standing c.args.scope.now) c.args.desk.now c.args.growth.now c.args.place.now c.requires.searching
    (standing c.enter.new.scope) (c.enter.ensures.shut c.if-enter.false) c.enter.ensures.later
    c.add_closed.new.growth c.in_ok-add_closed.field-0 c.in_ok-add_closed.ensures

pub returns-then-enter-clause-unfinished : goal.returns-then-enter-clause-unfinished
returns-then-enter-clause-unfinished g c =
    ended_before (seen_target c.args.task.now.target) (standing c.args.scope.now) (standing c.enter.new.scope)
    (entered_setting g.A.Algebra.algebra c.args.task.now (standing c.args.scope.now) c.args.desk.now c.args.growth.now c.args.place.now c.requires.searching
    (standing c.enter.new.scope) (c.enter.ensures.entered c.if-enter.true))
    c.visit_node.result c.visit_node.ensures.unfinished
