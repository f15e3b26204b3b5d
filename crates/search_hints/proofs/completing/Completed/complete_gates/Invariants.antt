use Rattle.std.proofs.Common.{◌≡◌}
use Rattle.search_hints.proofs.completing.Completed.complete_gates.Given as goal

abbrev pub invariant-loop-gate : goal.invariant-loop-gate
invariant-loop-gate g l = (l.self ≡ l.initial.self) × (l.decisions ≡ l.initial.decisions)
