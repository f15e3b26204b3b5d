-- Each turn of the loop adds what one pin more sees.
use Rattle.std.proofs.Common.{◌≡◌, ◌+◌, ◌<◌, true, false, List, [], length, get_or, sym, subst, ap, ◌∙◌, arith}
use Rattle.std.proofs.lemmas.List.{get_or_default}
use Rattle.pd_base.specs.declared.ids.LineId.{LineId}
use Rattle.netlist.specs.Circuit.{pins_at}
use Rattle.rise_fall.specs.Waves.{risen_fallen}
use Rattle.delay_annotation.specs.RiseFall.{rise_fall_of}
use Rattle.delay_replay.specs.Changes.{Changes, AreChangesOf, wave_at}
use Rattle.rise_fall.specs.Inside.GateCopies.{AreSeen, seen_wave}
use Rattle.rise_fall.proofs.SeenWaves.{one_seen_more}
use Rattle.rise_fall.proofs.gate.kept_copies.Goals as goal

pub loop-place-preserved : goal.loop-place-preserved
loop-place-preserved c =
    let net = c.args.net.now in
    let gate = c.args.gate.0 in
    let waves = c.args.waves.now in
    let place = c.loop-place.place in
    let none : LineId = record { 0 = 0 } in
    let lines = c.pins-pins.result.now in
    let line = (get_or lines place none).0 in
    let own = c.in_ok-copy.copy in
    let wave = c.index-waves-pins.result in
    let there : line < length waves = omega (arith, c.pins-pins.ensures.in_circuit place none c.loop-place-test.true, c.requires.one_each) in
    let same : wave ≡ get_or waves (get_or (pins_at net gate) place none).0 (record { before = false; times = [] }) =
    c.index-waves-pins.is ∙ get_or_default waves line wave (record { before = false; times = [] }) there
    ∙ ap (λ (all : List LineId). get_or waves (get_or all place none).0 (record { before = false; times = [] })) c.pins-pins.ensures.pins in
    let are : AreChangesOf (seen_wave (rise_fall_of net c.args.delays.now) net gate place waves) own =
    subst (λ (w : Changes). AreChangesOf (risen_fallen (rise_fall_of net c.args.delays.now (record { gate = c.args.gate; pin = place }) true) (rise_fall_of net c.args.delays.now (record { gate = c.args.gate; pin = place }) false) (wave_at w)) own) same
    (subst (λ n. AreChangesOf (risen_fallen n (rise_fall_of net c.args.delays.now (record { gate = c.args.gate; pin = place }) false) (wave_at wave)) own) c.rise.ensures.rise
    (subst (λ n. AreChangesOf (risen_fallen c.rise.result n (wave_at wave)) own) c.fall.ensures.fall c.in_ok-copy.ensures)) in record {
      seen = subst (AreSeen (rise_fall_of net c.args.delays.now) net gate (place + 1) waves) (sym c.in_ok-push.ensures.items)
          (one_seen_more (rise_fall_of net c.args.delays.now) net gate waves c.loop-place.kept.items place own c.loop-place.invariant.seen are);
    }

pub returns : goal.returns
returns c =
    let all : c.loop-place.place ≡ length (pins_at c.args.net.now c.args.gate.0) =
    omega (arith, ap (λ (lines : List LineId). length lines) c.pins-pins.ensures.pins) in
    subst (λ n. AreSeen (rise_fall_of c.args.net.now c.args.delays.now) c.args.net.now c.args.gate.0 n c.args.waves.now c.loop-place.kept.items)
    all c.loop-place.invariant.seen
