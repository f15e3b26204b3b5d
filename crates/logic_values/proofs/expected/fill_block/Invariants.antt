use Rattle.logic_values.specs.Expected.{AreFilled}
use Rattle.logic_values.proofs.expected.fill_block.Given as goal

-- the tests so far have their bits
abbrev pub invariant-loop-place : goal.invariant-loop-place
invariant-loop-place l = AreFilled l.net l.begin l.place l.initial.tests l.tests
