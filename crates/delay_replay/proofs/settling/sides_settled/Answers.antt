-- One more pin is tested, and where one has not settled the sides have not.
use Rattle.std.proofs.Common.{◌≡◌, pos, ◌-ℤ◌, get_or, slice_get, refl, sym, ap, subst, ◌∙◌, ⊎_elim, to_z, of_z, w64, arith}
use Rattle.std.proofs.lemmas.Int.{to_z-of_z}
use Rattle.std.proofs.lemmas.Bool.{cases_lt, false≢true}
use Rattle.std.proofs.lemmas.List.{get_or_read}
use Rattle.std.proofs.lemmas.Option.{slice_get-get_or, slice_get_within, get_or_from_slice_get}
use Rattle.pd_base.specs.declared.ids.LineId.{LineId}
use Rattle.delay_annotation.specs.Annotation.{delays_of}
use Rattle.delay_replay.specs.LineWaves.{kept_wave, no_changes}
use Rattle.delay_replay.specs.Settling.{IsOwnOrSettled}
use Rattle.delay_replay.proofs.BackwardSteps.{tested_at}
use Rattle.delay_replay.proofs.settling.sides_settled.Goals as goal

pub returns-then-not-pin_settled : goal.returns-then-not-pin_settled
returns-then-not-pin_settled c =
    let pins = c.pins-line-items in
    let pin = c.loop-pin.pin in
    let line = get_or pins.result.now pin (record { 0 = 0 }) in
    let in_circuit = pins.ensures.in_circuit pin (record { 0 = 0 }) c.loop-pin-test.true in
    let kept = get_or_read c.args.waves.now line.0 c.index-waves-line.result (omega (arith, in_circuit)) c.index-waves-line.is
    no_changes in
    let test = tested_at c.pin_settled.result (delays_of c.args.net.now c.args.delays.now) c.index-waves-line.result
    (kept_wave c.args.waves.now line.0) (to_z w64 (of_z w64 c.args.time)) c.args.time c.args.behind c.args.step pin
    kept (to_z-of_z w64 c.args.time c.ranges.time) c.pin_settled.ensures in
    let reads = ap (λ lines. slice_get lines pin) (sym pins.ensures.pins)
    ∙ slice_get-get_or pins.result.now pin (record { 0 = 0 }) c.loop-pin-test.true in (
      λ is. absurd (false≢true is),
      λ sides. sym c.if-not-pin_settled.true ∙ test.1 (λ apart. sides pin line (record { other = apart; reads = reads })),
    )

pub loop-pin-preserved : goal.loop-pin-preserved
loop-pin-preserved c =
    let pins = c.pins-line-items in
    let here = c.loop-pin.pin in
    let waves = c.args.waves.now in
    let time = to_z w64 (of_z w64 c.args.time) in
    let delays = delays_of c.args.net.now c.args.delays.now in
    let line = get_or pins.result.now here (record { 0 = 0 }) in
    let in_circuit = pins.ensures.in_circuit here (record { 0 = 0 }) c.loop-pin-test.true in
    let kept = get_or_read waves line.0 c.index-waves-line.result (omega (arith, in_circuit)) c.index-waves-line.is no_changes in
    let own = (tested_at c.pin_settled.result delays c.index-waves-line.result (kept_wave waves line.0) time time c.args.behind
    c.args.step here kept refl c.pin_settled.ensures).0 c.if-not-pin_settled.false in
    λ pin read below reads.
    ⊎_elim
    (λ less. c.loop-pin.invariant pin read less reads)
    (λ from.
    let this : here ≡ pin = omega arith in
    let same = ap (λ k. get_or pins.result.now k (record { 0 = 0 })) this
    ∙ get_or_from_slice_get pins.result.now pin read (record { 0 = 0 }) reads in
    subst (λ (l : LineId). IsOwnOrSettled delays (kept_wave waves l.0) (time -ℤ pos c.args.behind) c.args.step pin) same
    (subst (IsOwnOrSettled delays (kept_wave waves line.0) (time -ℤ pos c.args.behind) c.args.step) this own))
    (cases_lt pin here)

pub returns : goal.returns
returns c =
    let pins = c.pins-line-items in
    let delays = delays_of c.args.net.now c.args.delays.now in (
      λ is. λ pin side is_side.
          let reads = ap (λ lines. slice_get lines pin) pins.ensures.pins ∙ is_side.reads in
          let within = slice_get_within pins.result.now pin side reads in
          subst (λ time. IsOwnOrSettled delays (kept_wave c.args.waves.now side.0) (time -ℤ pos c.args.behind) c.args.step pin)
          (to_z-of_z w64 c.args.time c.ranges.time) (c.loop-pin.invariant pin side (omega arith) reads) is_side.other,
      λ sides. refl,
    )
