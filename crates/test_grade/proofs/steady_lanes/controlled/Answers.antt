-- The next pin's words count in each lane.
use Rattle.std.proofs.Common.{◌||◌, ◌&&◌, not, take_all, ap, ap₂, sym, ◌∙◌}
use Rattle.std.specs.List.{list_all, list_any}
use Rattle.std.proofs.lemmas.List.Folds.{list_all_more, list_any_more}
use Rattle.pd_base.specs.declared.ids.LineId.{LineId}
use Rattle.netlist.specs.Steadiness.{is_known_as}
use Rattle.logic_values.proofs.LaneBits.{lane_of-and, lane_of-none, lane_of-ones, lane_of-or}
use Rattle.test_grade.specs.Lines.{known_lane}
use Rattle.test_grade.proofs.steady_lanes.controlled.Goals as goal

pub loop-pin-init : goal.loop-pin-init
loop-pin-init c = record { any = λ lane within. lane_of-none lane; each = λ lane within. lane_of-ones lane within }

pub loop-pin-preserved : goal.loop-pin-preserved
loop-pin-preserved c =
    let pins = c.args.pins.now in
    let place = c.loop-pin.pin-index in
    record {
      any = λ lane within.
          lane_of-or c.loop-pin.some c.at_bit-some.result lane
          ∙ ap₂ (λ before this. before || this) (c.loop-pin.invariant.any lane within) (c.at_bit-some.ensures lane within)
          ∙ sym (list_any_more (λ (pin : LineId). is_known_as c.args.controlling (known_lane c.args.finals.now c.args.steadies.now lane pin.0))
          pins place (record { 0 = 0 }) c.loop-pin-test.true);
      each = λ lane within.
          lane_of-and c.loop-pin.all c.at_bit-all.result lane
          ∙ ap₂ (λ before this. before && this) (c.loop-pin.invariant.each lane within) (c.at_bit-all.ensures lane within)
          ∙ sym (list_all_more (λ (pin : LineId). is_known_as (not c.args.controlling) (known_lane c.args.finals.now c.args.steadies.now lane pin.0))
          pins place (record { 0 = 0 }) c.loop-pin-test.true);
    }

pub returns : goal.returns
returns c lane within =
    let pins = c.args.pins.now in
    let whole = take_all c.loop-pin.pin-index pins c.loop-pin-test.false in
    lane_of-or c.loop-pin.some c.loop-pin.all lane
    ∙ ap₂ (λ some all. some || all)
    (c.loop-pin.invariant.any lane within
    ∙ ap (list_any (λ (pin : LineId). is_known_as c.args.controlling (known_lane c.args.finals.now c.args.steadies.now lane pin.0))) whole)
    (c.loop-pin.invariant.each lane within
    ∙ ap (list_all (λ (pin : LineId). is_known_as (not c.args.controlling) (known_lane c.args.finals.now c.args.steadies.now lane pin.0))) whole)
