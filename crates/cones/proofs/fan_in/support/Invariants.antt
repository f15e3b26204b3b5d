use Rattle.cones.proofs.Sweep.{IsSwept}
use Rattle.cones.proofs.fan_in.support.Given as goal

-- the gates from this place on have had their turn
abbrev pub invariant-loop-place : goal.invariant-loop-place
invariant-loop-place l = IsSwept l.net l.fn.line.0 l.order l.place l.cone
