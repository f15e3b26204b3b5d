-- Each pin but the on-path one is judged by what its line is in the lane.
use Rattle.std.proofs.Common.{◌≡◌, ℕ, ◌+◌, ◌<◌, ◌↔◌, ◌&&◌, IsTrue, get_or, slice_get, Some, ap, ap₂, sym, subst, ◌∙◌, arith}
use borrow.Author.Count.{below_none}
use Rattle.std.proofs.lemmas.Option.{slice_get_within, slice_get-get_or, get_or_from_slice_get}
use Rattle.pd_base.specs.declared.ids.LineId.{LineId}
use Rattle.netlist.specs.Circuit.{HasLines, kind_at, line_count, pins_at}
use Rattle.netlist.specs.Conditions.{side_condition, Allows}
use Rattle.netlist.specs.Paths.{IsSide}
use Rattle.netlist.specs.Values.{value}
use Rattle.netlist.proofs.Evaluation.{all_at_place}
use Rattle.logic_values.specs.Lanes.{lane_of, lane_bit}
use Rattle.logic_values.proofs.LaneBits.{lane_of-and, lane_of-ones}
use Rattle.test_grade.proofs.GradedSides.{IsAllowedIn, allows_same, one_free, one_more, said_of}
use Rattle.test_grade.proofs.grading.sides_allowed.Goals.{then-pin-step, else-pin-step}
use Rattle.test_grade.proofs.grading.sides_allowed.Goals as goal

pub loop-pin-init : goal.loop-pin-init
loop-pin-init c lane within =
    let on_path = lane_of (get_or c.args.finals.now c.args.line.0 0) lane in (
      λ one. below_none (IsAllowedIn c.args.kind c.kind-gate.result on_path c.args.finals.now c.args.steadies.now lane c.args.step.pin c.pins-side-items.result.now),
      λ none. lane_of-ones lane within,
    )

pub loop-pin-preserved : goal.loop-pin-preserved
loop-pin-preserved c lane within =
    let pins = c.pins-side-items.result.now in
    let place = c.loop-pin.pin in
    let on_path = lane_of (get_or c.args.finals.now c.args.line.0 0) lane in
    let says = IsAllowedIn c.args.kind c.kind-gate.result on_path c.args.finals.now c.args.steadies.now lane c.args.step.pin pins in
    elim c.if-pin-step.branch [
      | then-pin-step w ↦
          let side = get_or pins place (record { 0 = 0 }) in
          let last = lane_bit c.args.finals.now lane side.0 in
          let steady = lane_bit c.args.steadies.now lane side.0 in
          let judged = w.allowed-all.ensures lane within in
          let here : IsTrue (lane_of w.allowed-all.result lane) ↔ says place = (
            λ one other differs at.
                subst (λ (l : LineId). Allows (side_condition c.args.kind c.kind-gate.result on_path) (lane_bit c.args.finals.now lane l.0) (lane_bit c.args.steadies.now lane l.0))
                (get_or_from_slice_get pins place other (record { 0 = 0 }) at) (judged.0 one),
            λ said. judged.1 (said side w.if-pin-step.true (slice_get-get_or pins place (record { 0 = 0 }) c.loop-pin-test.true)),
          ) in
          said_of ((k : ℕ) → k < place + 1 → says k) (lane_of c.if-pin-step.all lane) (lane_of c.loop-pin.all lane && lane_of w.allowed-all.result lane)
          (ap (λ word. lane_of word lane) w.all-is ∙ lane_of-and c.loop-pin.all w.allowed-all.result lane)
          (one_more says place (lane_of c.loop-pin.all lane) (c.loop-pin.invariant lane within) (lane_of w.allowed-all.result lane) here)
      | else-pin-step w ↦
          said_of ((k : ℕ) → k < place + 1 → says k) (lane_of c.if-pin-step.all lane) (lane_of c.loop-pin.all lane)
          (ap (λ word. lane_of word lane) w.all-is)
          (one_free says place (lane_of c.loop-pin.all lane) (c.loop-pin.invariant lane within)
          (λ side differs at. absurd (differs w.if-pin-step.false)))
    ]

pub returns : goal.returns
returns c lane pair within under =
    let net = c.args.net.now in
    let kind = c.args.kind in
    let step = c.args.step in
    let pins = c.pins-side-items.result.now in
    let on_path = lane_of (get_or c.args.finals.now c.args.line.0 0) lane in
    let turn = c.loop-pin.invariant lane within in
    let asks : side_condition kind c.kind-gate.result on_path ≡ side_condition kind (kind_at net step.gate.0) (value net pair.second c.args.line.0) =
    ap₂ (side_condition kind) c.kind-gate.ensures (under.values.each c.args.line.0 c.requires.line) in
    let lines : HasLines net (pins_at net step.gate.0) = subst (HasLines net) c.pins-side-items.ensures.pins c.pins-side-items.ensures.in_circuit in
    let same = λ (pin : ℕ) (side : LineId) (is : IsSide net step pin side).
    let inside = all_at_place (λ (l : LineId). l.0 < line_count net) (pins_at net step.gate.0) pin side lines is.reads in
    allows_same asks (under.values.each side.0 inside) (under.steady.each side.0 inside) in (
      λ one pin side is.
          let at : slice_get pins pin ≡ Some side = ap (λ l. slice_get l pin) c.pins-side-items.ensures.pins ∙ is.reads in
          (same pin side is).0 (turn.0 one pin (let inside = slice_get_within pins pin side at in omega arith) side is.other at),
      λ allowed. turn.1 (λ pin inside side other at.
          let is : IsSide net step pin side = record { other = other; reads = ap (λ l. slice_get l pin) (sym c.pins-side-items.ensures.pins) ∙ at } in
          (same pin side is).1 (allowed pin side is)),
    )
