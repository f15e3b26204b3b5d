-- The weights so far are divided.
use Rattle.std.proofs.Common.{◌^◌}
use Rattle.search_hints.proofs.Weighing.{AreDividedBelow}
use Rattle.search_hints.proofs.weights.scale_down.Given as goal

abbrev pub invariant-loop-at : goal.invariant-loop-at
invariant-loop-at l = AreDividedBelow (2 ^ 32) l.at l.initial.weights l.weights
