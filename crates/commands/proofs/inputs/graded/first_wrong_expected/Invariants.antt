use Rattle.std.proofs.Common.{All, take}
use Rattle.commands.specs.Grading.{ExpectsValues}
use Rattle.commands.proofs.inputs.graded.first_wrong_expected.Given as goal

-- the tests before this one expect the right values
abbrev pub invariant-loop-place : goal.invariant-loop-place
invariant-loop-place l = All (ExpectsValues l.net) (take l.place l.tests)
