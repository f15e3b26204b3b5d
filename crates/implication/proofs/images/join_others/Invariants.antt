-- The lines so far are joined.
use Rattle.implication.proofs.Joining.{AreJoined}
use Rattle.implication.proofs.images.join_others.Given as goal

abbrev pub invariant-loop-line : goal.invariant-loop-line
invariant-loop-line g l = AreJoined g.A.Algebra.algebra l.fn.op l.labels l.fn.first l.others l.line-index l.joined
