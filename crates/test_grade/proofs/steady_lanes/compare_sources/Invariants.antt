use Rattle.std.proofs.Common.{◌≡◌, ℕ, ◌<◌, ◌≤◌}
use Rattle.std.specs.Bool.{beq}
use Rattle.logic_values.specs.Lanes.{lane_bit}
use Rattle.test_grade.proofs.steady_lanes.compare_sources.Given as goal

-- the sources before this one are compared, and the others are as they were
abbrev pub invariant-loop-source : goal.invariant-loop-source
invariant-loop-source l = record {
  compared : (lane source : ℕ) → lane < 64 → source < l.source
      → lane_bit l.firsts lane source ≡ beq (lane_bit l.initial.firsts lane source) (lane_bit l.seconds lane source);
  others : (lane source : ℕ) → l.source ≤ source → lane_bit l.firsts lane source ≡ lane_bit l.initial.firsts lane source;
}
