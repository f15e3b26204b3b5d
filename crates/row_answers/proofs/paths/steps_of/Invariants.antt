use Rattle.std.proofs.Common.{All}
use Rattle.netlist.specs.Pins.{IsPin}
use Rattle.row_answers.proofs.paths.steps_of.Given as goal

-- the steps so far are pins of the circuit
abbrev pub invariant-loop-word : goal.invariant-loop-word
invariant-loop-word l = All (IsPin l.net) l.steps.items
