use Rattle.cones.specs.KeptCones.{IsConeFor}
use Rattle.row_answers.proofs.asked_cones.cones_in_turn.Given as goal

-- the cone serves the circuit
abbrev pub invariant-loop-name : goal.invariant-loop-name
invariant-loop-name l = IsConeFor l.net l.cone
