use Rattle.std.proofs.Common.{All, take}
use Rattle.commands.specs.Grading.{ListsPath}
use Rattle.commands.proofs.inputs.graded.first_wrong_path.Given as goal

-- the listed paths before this one are paths
abbrev pub invariant-loop-place : goal.invariant-loop-place
invariant-loop-place l = All (ListsPath l.net) (take l.place l.paths)
