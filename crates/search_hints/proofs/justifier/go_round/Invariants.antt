-- The room stays as it was.
use Rattle.std.proofs.Common.{◌≡◌}
use Rattle.search_hints.proofs.justifier.go_round.Given as goal

abbrev pub invariant-loop : goal.invariant-loop
invariant-loop g l = l.decisions ≡ l.initial.decisions
