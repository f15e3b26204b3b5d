use Rattle.std.proofs.Common.{◌≡◌}
use Rattle.search_hints.proofs.justifier.write_liked.Given as goal

abbrev pub invariant-loop-source : goal.invariant-loop-source
invariant-loop-source l = l.decisions ≡ l.initial.decisions
