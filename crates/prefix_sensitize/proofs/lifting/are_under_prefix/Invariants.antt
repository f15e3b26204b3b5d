use Rattle.std.proofs.Common.{take}
use Rattle.std.specs.Prelude.{All}
use Rattle.netlist.specs.Paths.{prefix_of}
use Rattle.prefix_sensitize.specs.Lifting.{IsUnderPrefix}
use Rattle.prefix_sensitize.proofs.lifting.are_under_prefix.Given as goal

-- those before are under the prefix
abbrev pub invariant-loop-proof : goal.invariant-loop-proof
invariant-loop-proof l = All (IsUnderPrefix l.course (prefix_of l.steps l.path)) (take l.proof-index l.proofs)
