use Rattle.std.proofs.Common.{◌≡◌, ◌≢◌, ℕ, ◌<◌}
use Rattle.netlist.specs.Values.{bit_of}
use Rattle.logic_values.specs.Lanes.{lane_bit}
use Rattle.logic_values.proofs.lane.put_into_lane.Given as goal

-- the bits before this one stand in the lane, and those of other lanes are what they were
abbrev pub invariant-loop-source : goal.invariant-loop-source
invariant-loop-source l = record {
  there : (source : ℕ) → source < l.source → lane_bit l.words l.lane source ≡ bit_of l.vector source;
  others : (other line : ℕ) → other < 64 → other ≢ l.lane → lane_bit l.words other line ≡ lane_bit l.initial.words other line;
}
