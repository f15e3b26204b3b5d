-- The next pin's value is joined.
use Rattle.std.proofs.Common.{[], ◌∷◌, get_or, ap₂, sym, ◌∙◌}
use Rattle.std.proofs.lemmas.List.{get_or_default}
use Rattle.pd_base.specs.declared.ids.LineId.{LineId}
use Rattle.five_valued.specs.declared.five.Five.TheVariants.{S0, XX}
use Rattle.five_valued.specs.FiveValues.{five_at, joined_five}
use Rattle.five_valued.proofs.Joins.{joined-take_more}
use Rattle.five_valued.proofs.simulation.joined_pins.Goals as goal

pub loop-pin-preserved : goal.loop-pin-preserved
loop-pin-preserved c =
    let value = λ (pin : LineId). five_at c.args.values.now pin.0 in
    let pins = c.args.pins.now in
    let place = c.loop-pin.pin-index in
    let pin = get_or pins place (record { 0 = 0 }) in
    c.five_join-joined.ensures
    ∙ ap₂ (λ first next. joined_five c.args.op (first ∷ next ∷ [])) c.loop-pin.invariant
    (get_or_default c.args.values.now pin.0 S0 XX (c.requires place (record { 0 = 0 }) c.loop-pin-test.true))
    ∙ sym (joined-take_more c.args.op value pins place (record { 0 = 0 }) c.loop-pin-test.true)
