use Rattle.std.proofs.Common.{drop}
use Rattle.path_model.proofs.SidesJudged.{AreDecidedBy}
use Rattle.path_model.proofs.test_conditions.sides_meet.Given as goal

-- whether the sides meet the conditions is decided by the steps that are left
abbrev pub invariant-loop-step : goal.invariant-loop-step
invariant-loop-step l =
    AreDecidedBy l.net l.kind l.pair l.path.source.0 l.path.steps l.line.0 (drop l.step-index l.step-items)
