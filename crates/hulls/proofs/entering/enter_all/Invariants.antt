use Rattle.std.proofs.Common.{◌≡◌, take}
use Rattle.hulls.proofs.entering.enter_all.Given as goal

abbrev pub invariant-loop-step : goal.invariant-loop-step
invariant-loop-step l = l.conditions ≡ record l.initial.conditions { steps = take l.step-index l.step-items }
