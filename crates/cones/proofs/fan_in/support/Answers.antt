-- Each turn of the loop sees to one gate more, from the last one back, and after the last turn the marks are the support.
use Rattle.std.proofs.Common.{List, Bool, true, length, set, sym, ap, subst, ◌∙◌, arith}
use Rattle.pd_base.specs.declared.ids.LineId.{LineId}
use Rattle.cones.specs.Marks.{is_marked, AddsMarks}
use Rattle.cones.proofs.Sweep.{IsSwept, begun, passed, turned, complete}
use Rattle.cones.proofs.fan_in.support.Goals as goal

pub loop-place-init : goal.loop-place-init
loop-place-init c =
    let line = c.args.line.0 in
    let order = c.order-order.result.now in
    subst (λ (marks : List Bool). IsSwept c.args.net.now line order (length order) (set marks line true))
    (sym (c.fill.ensures.after (λ y same. same)))
    (begun c.args.net.now line order (length c.args.cone.now) (omega arith))

pub loop-place-preserved-then-cone-own : goal.loop-place-preserved-then-cone-own
loop-place-preserved-then-cone-own c =
    let order = c.order-order.result.now in
    let own = λ (line : LineId). is_marked c.loop-place.cone line.0 in
    turned c.args.net.now c.args.line.0 order c.order-order.ensures.rank c.order-order.ensures.reads
    c.loop-place.place c.loop-place-test.true (omega arith) c.loop-place.cone c.mark_pins.new.cone
    (ap own (sym c.line_of-own.ensures.line) ∙ c.if-cone-own.true)
    (subst (λ lines. AddsMarks c.loop-place.cone lines c.mark_pins.new.cone) c.pins.ensures.pins c.mark_pins.ensures)
    c.loop-place.invariant

pub loop-place-preserved : goal.loop-place-preserved
loop-place-preserved c =
    let order = c.order-order.result.now in
    let own = λ (line : LineId). is_marked c.loop-place.cone line.0 in
    passed c.args.net.now c.args.line.0 order c.loop-place.place c.loop-place.cone c.loop-place-test.true
    (ap own (sym c.line_of-own.ensures.line) ∙ c.if-cone-own.false)
    c.loop-place.invariant

pub returns-clause-exactly : goal.returns-clause-exactly
returns-clause-exactly c =
    let swept = subst (λ place. IsSwept c.args.net.now c.args.line.0 c.order-order.result.now place c.loop-place.cone)
    (omega arith) c.loop-place.invariant in
    λ other within. (
      swept.sound other,
      complete c.args.net.now c.args.line.0 c.order-order.result.now c.order-order.ensures.rank c.loop-place.cone swept other,
    )
