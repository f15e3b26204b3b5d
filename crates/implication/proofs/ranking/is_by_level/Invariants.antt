-- The lines so far stand by level.
use Rattle.implication.proofs.ByLevel.{AreRising}
use Rattle.implication.proofs.ranking.is_by_level.Given as goal

abbrev pub invariant-loop-line : goal.invariant-loop-line
invariant-loop-line l = AreRising l.net l.lines l.line-index l.highest
