use Rattle.std.proofs.Common.{◌≡◌}
use Rattle.search_hints.proofs.grounds.Grounds.cause.Given as goal

abbrev pub invariant-loop-reader : goal.invariant-loop-reader
invariant-loop-reader g l = l.self ≡ l.initial.self
