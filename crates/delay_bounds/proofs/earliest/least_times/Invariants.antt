use Rattle.delay_bounds.specs.Inside.Earliest.{AreLeast}
use Rattle.delay_bounds.proofs.earliest.least_times.Given as goal

-- the faults so far have their least times
abbrev pub invariant-loop-fault : goal.invariant-loop-fault
invariant-loop-fault l = AreLeast l.words l.faults l.times l.fault l.bounds.items
