use Rattle.std.proofs.Common.{◌≡◌}
use Rattle.search_hints.proofs.completing.Completed.compute.Given as goal

abbrev pub invariant-loop-gate : goal.invariant-loop-gate
invariant-loop-gate l = l.self ≡ l.initial.self
