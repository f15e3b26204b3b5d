use Rattle.std.proofs.Common.{◌≡◌}
use Rattle.claim_check.specs.Right.{IsRightProofAt}
use Rattle.claim_check.proofs.Telling.{IsRightUpTo}
use Rattle.claim_check.proofs.proving.wrong_by.Given as goal

abbrev pub invariant-loop-place : goal.invariant-loop-place
invariant-loop-place g l = record {
  same : l.judge ≡ l.fn.judge;
  right : IsRightUpTo (IsRightProofAt l.fn.judge.net l.fn.budget l.run) l.place;
}
