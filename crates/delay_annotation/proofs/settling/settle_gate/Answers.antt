-- Each turn settles one pin more of the gate.
use Rattle.std.proofs.Common.{List, length, ap, subst, arith}
use Rattle.pd_base.specs.declared.ids.LineId.{LineId}
use Rattle.delay_annotation.specs.Settling.{SettlesPins}
use Rattle.delay_annotation.proofs.Settled.{none_settled, pin_settled}
use Rattle.delay_annotation.proofs.settling.settle_gate.Goals as goal

pub loop-pin-init : goal.loop-pin-init
loop-pin-init c = record {
  fits = c.requires.fits;
  settles = none_settled c.args.net.now c.args.kept.now c.args.direction c.args.gate.0 c.args.delays.now;
}

pub set-requires-clause-fits : goal.set-requires-clause-fits
set-requires-clause-fits c = c.loop-pin.invariant.fits

pub loop-pin-preserved : goal.loop-pin-preserved
loop-pin-preserved c = record {
  fits = c.set.ensures.fits;
  settles = pin_settled c.args.net.now c.args.kept.now c.args.direction (record { gate = c.args.gate; pin = c.loop-pin.pin }) c.delay.result
      c.args.delays.now c.loop-pin.delays c.set.new.self c.delay.ensures.delay c.loop-pin.invariant.settles
      c.set.ensures.changes;
}

pub returns-clause-fits : goal.returns-clause-fits
returns-clause-fits c = c.loop-pin.invariant.fits

pub returns-clause-settles : goal.returns-clause-settles
returns-clause-settles c =
    let count = ap (λ (lines : List LineId). length lines) c.pins.ensures.pins in
    subst (λ n. SettlesPins c.args.net.now c.args.kept.now c.args.direction c.args.gate.0 n c.args.delays.now c.loop-pin.delays)
    (omega arith) c.loop-pin.invariant.settles
