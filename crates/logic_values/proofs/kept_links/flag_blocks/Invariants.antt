use Rattle.std.proofs.Common.{◌≡◌, ◌-◌, ◌≤◌, length}
use Rattle.netlist.specs.Circuit.{line_count}
use Rattle.netlist.specs.LinkedPairs.{KeepsLinks}
use Rattle.logic_values.proofs.Flagging.{AreFlaggedBelow}
use Rattle.logic_values.proofs.kept_links.flag_blocks.Given as goal

-- the tests of the blocks so far are flagged
abbrev pub invariant-loop-begin : goal.invariant-loop-begin
invariant-loop-begin l = record {
  within : l.begin ≤ length l.tests;
  told : AreFlaggedBelow (λ test. KeepsLinks l.net l.links test.pair) l.begin l.tests l.flags;
  flags : length l.flags ≡ length l.tests;
  places : length l.words ≡ line_count l.net;
}

abbrev pub decreases-loop-begin : goal.decreases-loop-begin
decreases-loop-begin l = length l.tests - l.begin
