-- The lines so far ascend.
use Rattle.std.proofs.Common.{◌≤◌}
use Rattle.hulls.proofs.Differing.{AscendUpTo}
use Rattle.hulls.proofs.settling.do_ascend.Given as goal

abbrev pub invariant-loop-place : goal.invariant-loop-place
invariant-loop-place l = record {
  some : 1 ≤ l.place;
  ascend : AscendUpTo l.lines l.place;
}
