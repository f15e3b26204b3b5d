use Rattle.std.proofs.Common.{◌≡◌, ◌-◌, ◌≤◌, length}
use Rattle.netlist.specs.Circuit.{line_count, observed_lines}
use Rattle.netlist.specs.Values.{observed_values}
use Rattle.logic_values.proofs.Flagging.{AreFlaggedBelow}
use Rattle.logic_values.proofs.expected.tell_blocks.Given as goal

-- the tests of the blocks so far are told of
abbrev pub invariant-loop-begin : goal.invariant-loop-begin
invariant-loop-begin l = record {
  within : l.begin ≤ length l.tests;
  told : AreFlaggedBelow (λ test. test.expected ≡ observed_values l.net test.pair.second) l.begin l.tests l.flags;
  flags : length l.flags ≡ length l.tests;
  places : length l.words ≡ line_count l.net;
  observed : length l.observed ≡ length (observed_lines l.net);
}

abbrev pub decreases-loop-begin : goal.decreases-loop-begin
decreases-loop-begin l = length l.tests - l.begin
