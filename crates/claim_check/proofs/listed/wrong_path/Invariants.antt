use Rattle.delay_annotation.specs.Annotation.{delays_of}
use Rattle.claim_check.specs.Right.{IsRightPathAt}
use Rattle.claim_check.proofs.Telling.{IsRightUpTo}
use Rattle.claim_check.proofs.listed.wrong_path.Given as goal

abbrev pub invariant-loop-row : goal.invariant-loop-row
invariant-loop-row l = IsRightUpTo (IsRightPathAt (delays_of l.net l.delays) l.first l.paths) l.row
