use Rattle.std.proofs.Common.{◌≡◌}
use Rattle.search_hints.proofs.completing.Completed.complete_sources.Given as goal

abbrev pub invariant-loop-source : goal.invariant-loop-source
invariant-loop-source g l = (l.self ≡ l.initial.self) × (l.decisions ≡ l.initial.decisions)
