use Rattle.std.proofs.Common.{◌≡◌}
use Rattle.search_hints.proofs.draft.Draft.wake_links.Given as goal

abbrev pub invariant-loop : goal.invariant-loop
invariant-loop l = l.self ≡ l.initial.self
