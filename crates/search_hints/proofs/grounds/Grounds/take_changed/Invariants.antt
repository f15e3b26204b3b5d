use Rattle.std.proofs.Common.{◌≡◌}
use Rattle.search_hints.proofs.grounds.Grounds.take_changed.Given as goal

abbrev pub invariant-loop-place : goal.invariant-loop-place
invariant-loop-place l = l.self ≡ l.initial.self
