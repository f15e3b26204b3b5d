use Rattle.std.proofs.Common.{◌≡◌, ◌-◌, length, take}
use Rattle.search_hints.proofs.justifier.leave_all.Given as goal

abbrev pub invariant-loop : goal.invariant-loop
invariant-loop l = l.conditions ≡ record l.initial.conditions { steps = take (length l.initial.conditions.steps - l.counter) l.initial.conditions.steps }
