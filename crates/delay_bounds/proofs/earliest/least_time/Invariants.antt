use Rattle.delay_bounds.specs.Inside.Earliest.{IsTold}
use Rattle.delay_bounds.specs.Least.{IsLeast}
use Rattle.delay_bounds.proofs.earliest.least_time.Given as goal

-- the least time of the tests so far
abbrev pub invariant-loop-test : goal.invariant-loop-test
invariant-loop-test l = IsLeast (IsTold l.words l.faults l.fault l.times l.test) l.least
