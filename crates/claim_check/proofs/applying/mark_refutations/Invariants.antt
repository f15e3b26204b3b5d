use Rattle.std.proofs.Common.{take}
use Rattle.claim_check.specs.Prefixes.{AreLeastMarks}
use Rattle.claim_check.proofs.applying.mark_refutations.Given as goal

-- the proofs before this one are marked
abbrev pub invariant-loop-place : goal.invariant-loop-place
invariant-loop-place l = AreLeastMarks l.prefixes (take l.place l.proofs) l.kind l.direction l.marks
