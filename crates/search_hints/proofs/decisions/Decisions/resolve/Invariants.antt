use Rattle.std.proofs.Common.{◌≡◌}
use Rattle.search_hints.proofs.decisions.Decisions.resolve.Given as goal

abbrev pub invariant-loop-conflicts : goal.invariant-loop-conflicts
invariant-loop-conflicts g l = l.self ≡ l.initial.self
