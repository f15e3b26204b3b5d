use Rattle.std.proofs.Common.{◌≡◌, length}
use Rattle.netlist.specs.Circuit.{line_count}
use Rattle.logic_values.specs.Blocks.{AreInLanes}
use Rattle.logic_values.proofs.blocks.put_vectors.Given as goal

-- the vectors so far stand in their lanes
abbrev pub invariant-loop-place : goal.invariant-loop-place
invariant-loop-place l = record {
  lanes : AreInLanes l.which l.begin l.place l.tests l.words;
  places : length l.words ≡ line_count l.net;
}
