-- Each step's sides are judged by what was computed of the lines, and then the steps behind it decide.
use Rattle.std.proofs.Common.{◌≡◌, true, drop, get_or, ◌+◌, ap, ap₂, sym, subst, ◌∙◌, arith}
use Rattle.pd_base.specs.declared.ids.LineId.{LineId}
use Rattle.netlist.specs.Circuit.{HasLines}
use Rattle.netlist.specs.Conditions.{side_condition}
use Rattle.path_model.proofs.PathSteps.{no_step}
use Rattle.path_model.proofs.SidesJudged.{AreDecidedBy, are_computed, decided_more, sides_from, sides_judged}
use Rattle.path_model.proofs.test_conditions.sides_meet.Goals as goal

pub returns-then-not-sides_pass : goal.returns-then-not-sides_pass
returns-then-not-sides_pass c = (
  λ never. absurd cc,
  λ meet.
      let net = c.args.net.now in
      let pair = c.args.pair.now in
      let kind = c.args.kind in
      let line = c.loop-step.line.0 in
      let steps = c.steps-step-items.result.now in
      let place = c.loop-step.step-index in
      let from = sides_from net kind pair steps place c.loop-step-test.true line
      (c.loop-step.invariant.same.0 meet) in
      let computed = are_computed net pair c.evaluate.new.out c.steady.new.out c.second.result.now c.second.ensures.bits
      (omega arith) (omega arith) c.evaluate.ensures c.steady.ensures.exactly in
      let judged = sides_judged net pair c.evaluate.new.out c.steady.new.out computed
      c.side_condition-condition.result (get_or steps place no_step)
      (subst (HasLines net) c.pins.ensures.pins c.pins.ensures.in_circuit) kind line c.pins.result.now c.pins.ensures.pins
      (c.side_condition-condition.ensures ∙ ap₂ (side_condition kind) c.kind.ensures
      (computed.final line c.loop-step.invariant.within)) in
      let passed : c.sides_pass.result ≡ true = c.sides_pass.ensures.1 (judged.1 from.0) in
      cc,
)

pub loop-step-preserved : goal.loop-step-preserved
loop-step-preserved c =
    let net = c.args.net.now in
    let pair = c.args.pair.now in
    let kind = c.args.kind in
    let line = c.loop-step.line.0 in
    let steps = c.steps-step-items.result.now in
    let place = c.loop-step.step-index in
    let computed = are_computed net pair c.evaluate.new.out c.steady.new.out c.second.result.now c.second.ensures.bits
    (omega arith) (omega arith) c.evaluate.ensures c.steady.ensures.exactly in
    let judged = sides_judged net pair c.evaluate.new.out c.steady.new.out computed
    c.side_condition-condition.result (get_or steps place no_step)
    (subst (HasLines net) c.pins.ensures.pins c.pins.ensures.in_circuit) kind line c.pins.result.now c.pins.ensures.pins
    (c.side_condition-condition.ensures ∙ ap₂ (side_condition kind) c.kind.ensures
    (computed.final line c.loop-step.invariant.within)) in
    let passed : c.sides_pass.result ≡ true = cc in
    let source = c.args.path.now.source.0 in
    let all = c.args.path.now.steps in
    subst (λ next. AreDecidedBy net kind pair source all next (drop (place + 1) steps)) (sym (ap (λ (l : LineId). l.0) c.line_of-line.ensures.line))
    (decided_more net kind pair steps place c.loop-step-test.true line source all
    (judged.0 (c.sides_pass.ensures.0 passed)) c.loop-step.invariant)
