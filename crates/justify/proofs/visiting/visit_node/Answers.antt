-- The node stands as before its trial, whether that fails as the one above did or is gone through.
use Rattle.std.proofs.Common.{Option, None, subst}
use Rattle.pd_base.specs.Pair.{Vectors}
use Rattle.implication.specs.Scopes.{standing}
use Rattle.pair_judging.specs.Targets.{seen_target}
use Rattle.justify.specs.Trying.{FailsByKept, IsTrialOf}
use Rattle.justify.proofs.SameNodes.{answer_before, next_stays}
use Rattle.justify.proofs.visiting.visit_node.Goals as goal

pub returns-then-fails_as_above-clause-answer : goal.returns-then-fails_as_above-clause-answer
returns-then-fails_as_above-clause-answer g c =
    let fails = c.fails_as_above.ensures.failed c.if-fails_as_above.true in
    record { failed = fails.failed; counted = fails.counted; extended = c.in_ok-extend.ensures }

pub returns-in_ok-extend-in-None-clause-answer : goal.returns-in_ok-extend-in-None-clause-answer
returns-in_ok-extend-in-None-clause-answer g c =
    let first = standing c.args.scope.now in let middle = standing c.fails_as_above.new.scope in let last = standing c.try_node.new.scope in
    let target = seen_target c.args.task.now.target in let closers = c.try_node.new.desk.closers in
    let P : Option Vectors → Type 0 = λ test. IsTrialOf g.A.Algebra.algebra target middle last closers test in
    let fails : FailsByKept g.A.Algebra.algebra target first last closers =
    answer_before g.A.Algebra.algebra target first middle last c.fails_as_above.ensures.restored closers None
    (subst P c.in-None.is c.in_ok-test.ensures.answer) in
    record { failed = fails.failed; counted = fails.counted; extended = c.in_ok-extend-in-None.ensures }

pub extend-requires-in-None-clause-some : goal.extend-requires-in-None-clause-some
extend-requires-in-None-clause-some g c =
    next_stays g.A.Algebra.algebra (seen_target c.args.task.now.target) (standing c.fails_as_above.new.scope) (standing c.try_node.new.scope)
    c.try_node.ensures.restored c.choose_next-next-2.result c.choose_next-next-2.ensures.some
