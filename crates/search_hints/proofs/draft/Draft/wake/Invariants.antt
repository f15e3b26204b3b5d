use Rattle.std.proofs.Common.{◌≡◌}
use Rattle.search_hints.proofs.draft.Draft.wake.Given as goal

abbrev pub invariant-loop-reader : goal.invariant-loop-reader
invariant-loop-reader l = l.self ≡ l.initial.self
