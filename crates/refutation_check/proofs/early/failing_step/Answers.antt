-- The line is one of the path, so lines that fail a step from it fail the path.
use Rattle.std.proofs.Common.{drop}
use Rattle.refutation_check.proofs.FailingSteps.{way_in_circuit, step_fails}
use Rattle.refutation_check.proofs.early.failing_step.Goals as goal

pub level-requires : goal.level-requires
level-requires g c =
    way_in_circuit g.A.Algebra.algebra g.met.A.Algebra.laws c.args.net.now c.args.target.now.kind c.args.target.now.path.now c.lines.ensures.circuit
    c.requires.prefix c.loop-step.line.0 (drop c.loop-step.step-index c.steps-step-items.result.now) c.loop-step.invariant

pub failure_at-requires-clause-line : goal.failure_at-requires-clause-line
failure_at-requires-clause-line g c =
    way_in_circuit g.A.Algebra.algebra g.met.A.Algebra.laws c.args.net.now c.args.target.now.kind c.args.target.now.path.now c.lines.ensures.circuit
    c.requires.prefix c.loop-step.line.0 (drop c.loop-step.step-index c.steps-step-items.result.now) c.loop-step.invariant

pub returns-in-Some : goal.returns-in-Some
returns-in-Some g c = λ links.
    let target = c.args.target.now in
    step_fails g.A.Algebra.algebra g.met.A.Algebra.laws c.args.net.now target.kind target.path.now c.steps-step-items.result.now
    c.loop-step.step-index c.loop-step-test.true c.loop-step.line.0 c.loop-step.invariant c.lines.ensures.circuit links target.direction
    c.args.states.now c.in-Some.failure c.in-Some.ensures
