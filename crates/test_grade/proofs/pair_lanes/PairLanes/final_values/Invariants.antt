use Rattle.std.proofs.Common.{◌≡◌, ℕ, ◌<◌, length}
use Rattle.logic_values.specs.Known.{bit_at}
use Rattle.logic_values.specs.Lanes.{lane_bit}
use Rattle.test_grade.proofs.pair_lanes.PairLanes.final_values.Given as goal

-- the lines before this one have their values
abbrev pub invariant-loop-line : goal.invariant-loop-line
invariant-loop-line l = record {
  told : (line : ℕ) → line < l.line → bit_at l.out line ≡ lane_bit l.self.finals l.lane line;
  places : length l.out ≡ length l.initial.out;
}
