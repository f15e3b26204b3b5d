use Rattle.std.proofs.Common.{◌≡◌, ◌-◌, ◌≤◌, length, All}
use Rattle.netlist.specs.Circuit.{line_count, observed_lines, source_count}
use Rattle.logic_values.specs.Expected.{AreFilled}
use Rattle.logic_values.proofs.expected.fill_blocks.Given as goal

-- the tests of the blocks so far have their bits
abbrev pub invariant-loop-begin : goal.invariant-loop-begin
invariant-loop-begin l = record {
  within : l.begin ≤ length l.tests;
  filled : AreFilled l.net 0 l.begin l.initial.tests l.tests;
  fit : All (λ test. length test.pair.second ≡ source_count l.net) l.tests;
  places : length l.words ≡ line_count l.net;
  observed : length l.observed ≡ length (observed_lines l.net);
}

abbrev pub decreases-loop-begin : goal.decreases-loop-begin
decreases-loop-begin l = length l.tests - l.begin
