-- Each turn of the loop adds the line of one pin more.
use Rattle.std.proofs.Common.{List, take_all, subst, arith}
use Rattle.pd_base.specs.declared.ids.LineId.{LineId}
use Rattle.cones.specs.Marks.{AddsMarks}
use Rattle.cones.proofs.Marking.{adds_none, adds_next}
use Rattle.cones.proofs.fan_in.mark_pins.Goals as goal

pub loop-pin-init : goal.loop-pin-init
loop-pin-init c = adds_none c.args.cone.now

pub loop-pin-preserved : goal.loop-pin-preserved
loop-pin-preserved c =
    adds_next c.args.cone.now c.loop-pin.cone c.args.pins.now c.loop-pin.pin-index c.loop-pin-test.true (omega arith)
    c.loop-pin.invariant

pub returns : goal.returns
returns c =
    subst (λ (lines : List LineId). AddsMarks c.args.cone.now lines c.loop-pin.cone)
    (take_all c.loop-pin.pin-index c.args.pins.now c.loop-pin-test.false) c.loop-pin.invariant
