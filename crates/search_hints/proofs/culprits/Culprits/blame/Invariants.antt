use Rattle.std.proofs.Common.{◌≡◌}
use Rattle.search_hints.proofs.culprits.Culprits.blame.Given as goal

abbrev pub invariant-loop-change : goal.invariant-loop-change
invariant-loop-change l = l.self ≡ l.initial.self
