-- The readers of the lines seen so far are reached.
use Rattle.std.proofs.Common.{◌-◌}
use Rattle.implication.proofs.Spreading.{IsSpread}
use Rattle.implication.proofs.reaching.reach.Given as goal

abbrev pub invariant-loop-seen : goal.invariant-loop-seen
invariant-loop-seen g l = IsSpread l.net l.board.inside l.fn.source.0 l.seen l.reached

abbrev pub decreases-loop-seen : goal.decreases-loop-seen
decreases-loop-seen g l = l.reached.room - l.seen
