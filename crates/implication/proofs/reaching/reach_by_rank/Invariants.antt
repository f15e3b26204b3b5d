use Rattle.implication.proofs.RankedReach.{IsReachedTo}
use Rattle.implication.proofs.reaching.reach_by_rank.Given as goal

-- the gates before this one were passed
abbrev pub invariant-loop-gate : goal.invariant-loop-gate
invariant-loop-gate g l = IsReachedTo l.net l.board.inside l.fn.source.0 l.gate-items l.gate-index l.reached
