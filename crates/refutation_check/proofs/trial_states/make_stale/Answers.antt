-- The gate of one pin more is stale.
use Rattle.std.proofs.Common.{◌≡◌, ◌<◌, true, List, get_or, length, take_all, refl, subst, arith}
use Rattle.std.specs.List.{All}
use Rattle.pd_base.specs.declared.ids.PinRef.{PinRef}
use Rattle.refutation_check.proofs.TrialStates.{one_more_stale}
use Rattle.refutation_check.proofs.trial_states.make_stale.Goals as goal

pub loop-pin-init : goal.loop-pin-init
loop-pin-init c = record {
  places = refl;
  stale = λ k d inside. absurd (omega (arith, inside));
  stay = λ gate not. not;
  others = λ gate not apart. not;
}

pub loop-pin-preserved : goal.loop-pin-preserved
loop-pin-preserved c =
    let pins = c.args.pins.now in let place = c.loop-pin.pin-index in
    let none : PinRef = record { gate = record { 0 = 0 }; pin = 0 } in
    let inv = c.loop-pin.invariant in
    let given : (get_or pins place none).gate.0 < length c.args.stale.now = c.requires place none c.loop-pin-test.true in
    one_more_stale pins place c.args.stale.now c.loop-pin.stale c.loop-pin-test.true none (omega (arith, given, inv.places)) inv

pub returns : goal.returns
returns c =
    let pins = c.args.pins.now in let inv = c.loop-pin.invariant in
    record {
      places = inv.places;
      stale = subst (λ (ps : List PinRef). All (λ (pin : PinRef). get_or c.loop-pin.stale pin.gate.0 true ≡ true) ps)
          (take_all c.loop-pin.pin-index pins c.loop-pin-test.false) inv.stale;
      stay = inv.stay;
      others = inv.others;
    }
