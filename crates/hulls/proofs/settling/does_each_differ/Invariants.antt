use Rattle.hulls.proofs.Differing.{DifferUpTo}
use Rattle.hulls.proofs.settling.does_each_differ.Given as goal

abbrev pub invariant-loop-place : goal.invariant-loop-place
invariant-loop-place l = DifferUpTo l.lines l.place
