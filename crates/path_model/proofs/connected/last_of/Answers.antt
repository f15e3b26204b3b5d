-- Each step is on the line that was reached before it, or the steps don't connect.
use Rattle.std.proofs.Common.{drop, ◌+◌, sym, ap, subst}
use Rattle.pd_base.specs.declared.ids.LineId.{LineId}
use Rattle.path_model.proofs.PathSteps.{IsLeft, no_step, connects_from, left_more, on_reads, pin_on}
use Rattle.path_model.proofs.connected.last_of.Goals as goal

pub returns-then-pins-step : goal.returns-then-pins-step
returns-then-pins-step c = λ connects.
    let net = c.args.net.now in
    let steps = c.args.steps.now in
    let place = c.loop-step.step-index in
    let line = c.loop-step.line.0 in
    let on = (connects_from net steps place line c.loop-step-test.true (c.loop-step.invariant.connects.0 connects)).0 in
    c.if-pins-step.true (on_reads net _ line c.pins.result.now c.pins.ensures.pins on)

pub loop-step-preserved : goal.loop-step-preserved
loop-step-preserved c =
    let net = c.args.net.now in
    let steps = c.args.steps.now in
    let place = c.loop-step.step-index in
    let line = c.loop-step.line.0 in
    subst (λ next. IsLeft net c.args.source.0 steps next (drop (place + 1) steps)) (sym (ap (λ (l : LineId). l.0) c.line_of-line.ensures.line))
    (left_more net steps place c.args.source.0 steps line c.loop-step-test.true
    (pin_on net _ line c.pins.result.now
    (c.requires place no_step c.loop-step-test.true) c.pins.ensures.pins c.if-pins-step.false)
    c.loop-step.invariant)
