use Rattle.std.proofs.Common.{◌≡◌}
use Rattle.search_hints.proofs.justifier.begin_gates.Given as goal

abbrev pub invariant-loop-gate : goal.invariant-loop-gate
invariant-loop-gate g l = l.decisions ≡ l.initial.decisions
