use Rattle.std.proofs.Common.{take}
use Rattle.std.specs.Prelude.{All}
use Rattle.netlist.specs.Paths.{prefix_of}
use Rattle.prefix_sensitize.specs.Lifting.{IsUnderPrefix}
use Rattle.prefix_sensitize.proofs.lifting.first_under_prefix.Given as goal

-- none of those before is under the prefix
abbrev pub invariant-loop-at : goal.invariant-loop-at
invariant-loop-at l = All (λ proof. ¬ IsUnderPrefix l.course (prefix_of l.steps l.path) proof) (take l.at l.proofs)
