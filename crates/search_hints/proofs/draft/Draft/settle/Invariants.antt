use Rattle.std.proofs.Common.{◌≡◌}
use Rattle.search_hints.proofs.draft.Draft.settle.Given as goal

abbrev pub invariant-loop : goal.invariant-loop
invariant-loop g l = l.self ≡ l.initial.self
