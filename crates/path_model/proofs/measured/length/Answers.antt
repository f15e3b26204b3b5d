-- Steps that connect are pins of the circuit, and there are too few of them for their delays to overflow.
use Rattle.std.proofs.Common.{length, ap, subst, sym, arith}
use Rattle.std.proofs.lemmas.Grind.{common_steps}
use Rattle.std.specs.List.{All}
use Rattle.netlist.specs.Pins.{IsPin}
use Rattle.path_laws.proofs.StepCounts.{prefix_has_few_steps}
use Rattle.path_model.proofs.PathSteps.{no_step, connected_pins}
use Rattle.path_model.proofs.measured.length.Goals as goal

pub delay-requires-clause-gate : goal.delay-requires-clause-gate
delay-requires-clause-gate c =
    let net = c.args.net.now in
    let pins = subst (All (IsPin net)) (sym c.steps-step-items.ensures)
    (connected_pins net c.args.path.now.source.0 c.args.path.now.steps c.requires.prefix.connects) in
    (pins c.loop-step.step-index no_step c.loop-step-test.true).in_circuit

pub delay-requires-clause-pin : goal.delay-requires-clause-pin
delay-requires-clause-pin c =
    let net = c.args.net.now in
    let pins = subst (All (IsPin net)) (sym c.steps-step-items.ensures)
    (connected_pins net c.args.path.now.source.0 c.args.path.now.steps c.requires.prefix.connects) in
    (pins c.loop-step.step-index no_step c.loop-step-test.true).in_gate

pub overflow_add-total : goal.overflow_add-total
overflow_add-total c =
    let few = prefix_has_few_steps c.args.net.now c.sources.ensures.circuit c.args.path.now c.requires.prefix in
    omega (arith, ap length c.steps-step-items.ensures)

pub loop-step-preserved : goal.loop-step-preserved
loop-step-preserved c = grind (arith, common_steps)
