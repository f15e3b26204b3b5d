-- Where the few sources do not close the trial, the scope is as before; and what all that are renewed close, is closed at the node.
use Rattle.std.proofs.Common.{None}
use Rattle.implication.specs.Scopes.{standing}
use Rattle.pair_judging.specs.Targets.{seen_target}
use Rattle.justify.proofs.SameNodes.{answer_before}
use Rattle.justify.proofs.trying.closes_by_tried.Goals as goal

pub returns-clause-failed : goal.returns-clause-failed
returns-clause-failed g c = λ yes.
    answer_before g.A.Algebra.algebra (seen_target c.args.target.now) (standing c.args.scope.now) (standing c.closes_by_few-is_closed.new.scope)
    (standing c.closes_again.new.scope) c.closes_by_few-is_closed.ensures.restored c.closes_again.new.desk.closers None
    (c.closes_again.ensures.failed yes)
