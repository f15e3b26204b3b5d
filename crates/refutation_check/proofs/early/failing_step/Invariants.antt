use Rattle.std.proofs.Common.{drop}
use Rattle.refutation_check.proofs.FailingSteps.{IsOnWay}
use Rattle.refutation_check.proofs.early.failing_step.Given as goal

-- the line is one of the path, and these steps are left
abbrev pub invariant-loop-step : goal.invariant-loop-step
invariant-loop-step g l =
    IsOnWay g.A.Algebra.algebra g.met.A.Algebra.laws l.net l.target.kind l.target.path.now l.line.0 (drop l.step-index l.step-items)
