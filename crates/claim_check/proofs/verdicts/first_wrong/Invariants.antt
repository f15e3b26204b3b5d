use Rattle.std.proofs.Common.{◌*◌}
use Rattle.claim_check.specs.FaultsInRows.{JudgesTests}
use Rattle.claim_check.specs.Right.{IsRightFaultAt}
use Rattle.claim_check.proofs.Telling.{IsRightUpTo}
use Rattle.claim_check.proofs.verdicts.first_wrong.Given as goal

-- all is right of the faults of the rows before this one
abbrev pub invariant-loop-row : goal.invariant-loop-row
invariant-loop-row l = record { right : IsRightUpTo (IsRightFaultAt l.net l.run) (2 * l.row); judge : JudgesTests l.net l.run.rules l.run.tests l.judge }
