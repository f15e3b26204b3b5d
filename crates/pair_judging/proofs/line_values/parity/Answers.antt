-- The next pin's value turns the parity.
use Rattle.std.proofs.Common.{not, get_or, ap, sym, ◌∙◌}
use Rattle.std.specs.Bool.{beq}
use Rattle.pd_base.specs.declared.ids.LineId.{LineId}
use Rattle.logic_values.specs.Known.{bit_at}
use Rattle.logic_values.proofs.PinTests.{parity-take_more}
use Rattle.pair_judging.proofs.line_values.parity.Goals as goal

pub loop-pin-preserved : goal.loop-pin-preserved
loop-pin-preserved c =
    let value = λ (pin : LineId). bit_at c.args.values.now pin.0 in
    let pins = c.args.pins.now in
    let place = c.loop-pin.pin-index in
    ap (λ odd. not (beq odd (value (get_or pins place (record { 0 = 0 }))))) c.loop-pin.invariant
    ∙ sym (parity-take_more value pins place (record { 0 = 0 }) c.loop-pin-test.true)
