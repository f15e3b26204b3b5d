-- The next pin's word counts in each lane.
use Rattle.std.proofs.Common.{◌&&◌, get_or, ap, sym, ◌∙◌}
use Rattle.std.proofs.lemmas.List.Folds.{list_all_more}
use Rattle.pd_base.specs.declared.ids.LineId.{LineId}
use Rattle.logic_values.specs.Lanes.{lane_bit}
use Rattle.logic_values.proofs.LaneBits.{lane_of-and, lane_of-ones}
use Rattle.test_grade.proofs.steady_lanes.all_steady.Goals as goal

pub loop-pin-init : goal.loop-pin-init
loop-pin-init c lane within = lane_of-ones lane within

pub loop-pin-preserved : goal.loop-pin-preserved
loop-pin-preserved c lane within =
    let words = c.args.steadies.now in
    let bit = λ (pin : LineId). lane_bit words lane pin.0 in
    let pins = c.args.pins.now in
    let place = c.loop-pin.pin-index in
    lane_of-and c.loop-pin.all (get_or words (get_or pins place (record { 0 = 0 })).0 0) lane
    ∙ ap (λ before. before && bit (get_or pins place (record { 0 = 0 }))) (c.loop-pin.invariant lane within)
    ∙ sym (list_all_more bit pins place (record { 0 = 0 }) c.loop-pin-test.true)
