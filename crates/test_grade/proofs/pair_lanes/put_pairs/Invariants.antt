use Rattle.std.proofs.Common.{◌≡◌, length}
use Rattle.netlist.specs.Circuit.{line_count}
use Rattle.test_grade.specs.Serving.{StandInLanes}
use Rattle.test_grade.proofs.pair_lanes.put_pairs.Given as goal

-- the pairs so far stand in their lanes
abbrev pub invariant-loop-place : goal.invariant-loop-place
invariant-loop-place l = record {
  seconds : StandInLanes (λ pair. pair.second) l.begin l.place l.tests l.finals;
  firsts : StandInLanes (λ pair. pair.first) l.begin l.place l.tests l.steadies;
  finals : length l.finals ≡ line_count l.net;
  steadies : length l.steadies ≡ line_count l.net;
}
