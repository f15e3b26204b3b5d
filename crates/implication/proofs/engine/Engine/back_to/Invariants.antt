-- What stood at the present length of the list stands.
use Rattle.std.proofs.Common.{length}
use Rattle.implication.proofs.GoingBack.{IsGoingBack}
use Rattle.implication.proofs.engine.Engine.back_to.Given as goal

abbrev pub invariant-loop-self : goal.invariant-loop-self
invariant-loop-self g l = IsGoingBack l.initial.self l.fn.mark l.self

abbrev pub decreases-loop-self : goal.decreases-loop-self
decreases-loop-self g l = length l.self.assumptions
