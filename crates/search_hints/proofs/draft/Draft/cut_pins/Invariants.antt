use Rattle.std.proofs.Common.{◌≡◌}
use Rattle.search_hints.proofs.draft.Draft.cut_pins.Given as goal

abbrev pub invariant-loop-pin : goal.invariant-loop-pin
invariant-loop-pin l = l.self ≡ l.initial.self
