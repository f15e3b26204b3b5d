use Rattle.std.proofs.Common.{drop}
use Rattle.path_model.proofs.PathSteps.{IsLeft}
use Rattle.path_model.proofs.connected.last_of.Given as goal

-- whether the steps connect, and where they lead to, is decided by those that are left
abbrev pub invariant-loop-step : goal.invariant-loop-step
invariant-loop-step l = IsLeft l.net l.fn.source.0 l.steps l.line.0 (drop l.step-index l.steps)
