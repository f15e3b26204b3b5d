use Rattle.std.proofs.Common.{◌≡◌}
use Rattle.search_hints.proofs.decisions.Decisions.newest_culprit.Given as goal

abbrev pub invariant-loop : goal.invariant-loop
invariant-loop l = l.self ≡ l.initial.self
