use Rattle.std.proofs.Common.{◌≡◌, map, Some}
use Rattle.prefix_sensitize.proofs.numbering.left_of.Given as goal

-- all so far
abbrev pub invariant-loop-proof : goal.invariant-loop-proof
invariant-loop-proof l = l.left.items ≡ map Some l.yielded
