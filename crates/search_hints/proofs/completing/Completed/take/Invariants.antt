use Rattle.std.proofs.Common.{◌≡◌}
use Rattle.search_hints.proofs.completing.Completed.take.Given as goal

abbrev pub invariant-loop-source : goal.invariant-loop-source
invariant-loop-source l = l.self ≡ l.initial.self
