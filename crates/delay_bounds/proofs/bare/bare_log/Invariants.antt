use Rattle.std.proofs.Common.{length}
use Rattle.delay_bounds.proofs.BareRows.{HasCut}
use Rattle.delay_bounds.proofs.bare.bare_log.Given as goal

-- the rows so far are cut off and kept
abbrev pub invariant-loop-rest : goal.invariant-loop-rest
invariant-loop-rest l = record {
  has : HasCut l.tests l.bytes l.rest l.log.items;
}

abbrev pub decreases-loop-rest : goal.decreases-loop-rest
decreases-loop-rest l = length l.rest
