use Rattle.std.proofs.Common.{◌≡◌}
use Rattle.search_hints.proofs.decisions.drop_reasons.Given as goal

abbrev pub invariant-loop : goal.invariant-loop
invariant-loop l = l.culprits ≡ l.initial.culprits
