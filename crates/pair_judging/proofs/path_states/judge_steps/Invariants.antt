use Rattle.std.proofs.Common.{drop}
use Rattle.pair_judging.proofs.StepStates.{IsLeftAt}
use Rattle.pair_judging.proofs.path_states.judge_steps.Given as goal

-- the steps that are left decide whether the sides meet the conditions
abbrev pub invariant-loop-step : goal.invariant-loop-step
invariant-loop-step g l = IsLeftAt g.A.Algebra.algebra g.met.A.Algebra.laws l.net l.target.kind l.target.path.now l.states l.line.0 (drop l.step-index l.step-items)
