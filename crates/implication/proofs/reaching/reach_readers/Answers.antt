-- Each pin's gate has its line added if it is inside; after the last pin all readers' lines are reached.
use Rattle.std.proofs.Common.{◌+◌, [], ◌∷◌, take, sym, ◌∙◌, subst}
use Rattle.pd_base.specs.declared.ids.LineId.{LineId}
use Rattle.pd_base.specs.declared.ids.PinRef.{PinRef}
use Rattle.cones.specs.FoundLines.{FoundSet, FindsMore}
use Rattle.implication.proofs.Spreading.{HasPinsReached, pins_skip, pins_more, pins_all}
use Rattle.implication.proofs.reaching.reach_readers.Goals as goal
use Rattle.implication.proofs.reaching.reach_readers.Goals.{then-is_inside, else-is_inside}

abbrev no_pin : PinRef
no_pin = record { gate = record { 0 = 0 }; pin = 0 }

pub loop-pin-preserved : goal.loop-pin-preserved
loop-pin-preserved g c =
    let pins = c.fanout-pin-items.result.now in
    let index = c.loop-pin.pin-index in
    let P : FoundSet → Type 0 = λ r. HasPinsReached c.args.net.now c.args.board.now.inside (take (index + 1) pins) c.args.reached.now r in
    elim c.if-is_inside.branch [
      | then-is_inside w ↦ subst P (sym w.reached-is)
          (pins_more c.args.net.now c.args.board.now.inside pins index no_pin c.loop-pin-test.true c.args.reached.now c.loop-pin.reached
          c.loop-pin.invariant (c.fanout-pin-items.ensures.on_line index no_pin c.loop-pin-test.true).in_circuit
          (sym c.is_inside.ensures ∙ w.if-is_inside.true) w.add.new.self
          (subst (λ (line : LineId). FindsMore (line ∷ []) c.loop-pin.reached w.add.new.self) w.line_of.ensures.line w.add.ensures))
      | else-is_inside w ↦ subst P (sym w.reached-is)
          (pins_skip c.args.net.now c.args.board.now.inside pins index no_pin c.loop-pin-test.true c.args.reached.now c.loop-pin.reached
          c.loop-pin.invariant (sym c.is_inside.ensures ∙ w.if-is_inside.false))
    ]

pub returns-clause-readers : goal.returns-clause-readers
returns-clause-readers g c =
    pins_all c.args.net.now c.args.board.now.inside c.fanout-pin-items.result.now c.loop-pin.pin-index c.loop-pin-test.false
    c.args.line c.fanout-pin-items.ensures c.args.reached.now c.loop-pin.reached c.loop-pin.invariant
