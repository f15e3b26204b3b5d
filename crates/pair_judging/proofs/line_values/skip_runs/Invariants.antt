use Rattle.std.proofs.Common.{◌-◌, ◌≤◌, length}
use Rattle.pair_judging.specs.LineValues.{AreFresh}
use Rattle.pair_judging.proofs.line_values.skip_runs.Given as goal

-- the gates up to this place are fresh
abbrev pub invariant-loop-place : goal.invariant-loop-place
invariant-loop-place l = record {
  behind : l.fn.from ≤ l.place;
  within : l.place ≤ length l.stale;
  fresh : AreFresh l.stale l.fn.from l.place;
}

abbrev pub decreases-loop-place : goal.decreases-loop-place
decreases-loop-place l = length l.stale - l.place
