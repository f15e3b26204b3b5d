use Rattle.std.proofs.Common.{◌≡◌, length}
use Rattle.logic_values.specs.Expected.{AreCompared}
use Rattle.logic_values.proofs.expected.tell_block.Given as goal

-- the tests so far are compared
abbrev pub invariant-loop-place : goal.invariant-loop-place
invariant-loop-place l = record {
  compared : AreCompared l.begin l.place l.tests l.observed l.initial.flags l.flags;
  places : length l.flags ≡ length l.tests;
}
