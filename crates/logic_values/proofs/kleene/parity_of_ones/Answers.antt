-- The next pin turns the parity where it is steady at 1. What is not known counts as 0, as in the parity that is meant.
use Rattle.std.proofs.Common.{true, not, map, take_all, ap, ap₂, sym, ◌∙◌}
use Rattle.std.specs.Bool.{beq}
use Rattle.pd_base.specs.declared.ids.LineId.{LineId}
use Rattle.netlist.specs.Values.{parity}
use Rattle.netlist.specs.Steadiness.{is_known_as}
use Rattle.logic_values.specs.Known.{known_at}
use Rattle.logic_values.proofs.PinTests.{parity-take_more, known_ones}
use Rattle.logic_values.proofs.kleene.parity_of_ones.Goals as goal

pub loop-pin-preserved : goal.loop-pin-preserved
loop-pin-preserved c =
    let is_one = λ (pin : LineId). is_known_as true (known_at c.args.values.now pin.0) in
    let pins = c.args.pins.now in
    let place = c.loop-pin.pin-index in
    ap₂ (λ odd one. not (beq odd one)) c.loop-pin.invariant c.is_at-odd.ensures
    ∙ sym (parity-take_more is_one pins place (record { 0 = 0 }) c.loop-pin-test.true)

pub returns : goal.returns
returns c =
    let told = λ (pin : LineId). known_at c.args.values.now pin.0 in
    c.loop-pin.invariant
    ∙ ap (λ first. parity (map (λ pin. is_known_as true (told pin)) first))
    (take_all c.loop-pin.pin-index c.args.pins.now c.loop-pin-test.false)
    ∙ sym (ap parity (known_ones told c.args.pins.now))
