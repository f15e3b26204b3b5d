-- A pin sees each change of its line later by its delay.
use Rattle.std.proofs.Common.{◌≡◌, ℤ, pos, ◌+ℤ◌, ◌≤ℤ◌, All, List, length, get_or, sym, subst, ap, ◌∙◌, arith, rules, Some, SFits, to_z, of_z, w64}
use Rattle.std.proofs.lemmas.List.{get_or-map, length-map}
use Rattle.std.proofs.lemmas.Int.{to_z-of_z}
use Rattle.delay_replay.specs.Changes.{Changes, AreTimesRising, IsBounded}
use Rattle.delay_replay.specs.declared.wave.TheConstants.{LATEST_CHANGE}
use Rattle.delay_replay.specs.PinCopies.{IsTimeAt}
use Rattle.delay_replay.proofs.LaterCopies.{copy_of_read, line_inside, pin_inside}
use Rattle.delay_replay.proofs.Turning.{rising_moved}
use Rattle.delay_replay.proofs.pin_copies.LaterWavesPinCopies.change.Goals as goal

pub offset_bounds-self-pin : goal.offset_bounds-self-pin
offset_bounds-self-pin c = omega (arith, pin_inside c.args.self.now.delays.now c.args.self.now.lines.now c.args.self.now.waves.now c.requires.can c.args.pin c.requires.pin, c.requires.can.few)

pub bounds-self-pin : goal.bounds-self-pin
bounds-self-pin c = pin_inside c.args.self.now.delays.now c.args.self.now.lines.now c.args.self.now.waves.now c.requires.can c.args.pin c.requires.pin

pub bounds-self-self : goal.bounds-self-self
bounds-self-self c = line_inside c.args.self.now.delays.now c.args.self.now.lines.now c.args.self.now.waves.now c.requires.can c.args.pin c.requires.pin

pub offset_bounds-self-pin-2 : goal.offset_bounds-self-pin-2
offset_bounds-self-pin-2 c = omega (arith, pin_inside c.args.self.now.delays.now c.args.self.now.lines.now c.args.self.now.waves.now c.requires.can c.args.pin c.requires.pin, c.requires.can.few, c.requires.can.one_each)

pub bounds-self-pin-2 : goal.bounds-self-pin-2
bounds-self-pin-2 c = omega (arith, pin_inside c.args.self.now.delays.now c.args.self.now.lines.now c.args.self.now.waves.now c.requires.can c.args.pin c.requires.pin, c.requires.can.one_each)

pub later-requires : goal.later-requires
later-requires c =
    let line = (get_or c.args.self.now.lines.now c.args.pin (record { 0 = 0 })).0 in
    let own = subst IsBounded (sym c.index-self-self.is) (c.requires.can.bounded line c.index-self-self.result
    (line_inside c.args.self.now.delays.now c.args.self.now.lines.now c.args.self.now.waves.now c.requires.can c.args.pin c.requires.pin)) in
    let times : c.changes-changes.result.now ≡ c.index-self-self.result.times =
    c.changes-changes.ensures.times ∙ ap (λ (wave : Changes). wave.times) (sym c.index-self-self.is) in
    let soon = subst (All (λ change. change ≤ℤ LATEST_CHANGE)) (sym times) own c.args.place (pos 0) c.if-changes-place.false in
    let fits : SFits w64 (get_or c.changes-changes.result.now c.args.place (pos 0)) = search rules in
    subst (λ change. change ≤ℤ LATEST_CHANGE) (sym (to_z-of_z w64 (get_or c.changes-changes.result.now c.args.place (pos 0)) fits)) soon

pub returns-then-changes-place : goal.returns-then-changes-place
returns-then-changes-place c =
    let seen =
    copy_of_read c.args.self.now.delays.now c.args.self.now.lines.now c.args.self.now.waves.now c.requires.can.one_each c.args.pin
    (pin_inside c.args.self.now.delays.now c.args.self.now.lines.now c.args.self.now.waves.now c.requires.can c.args.pin c.requires.pin)
    (line_inside c.args.self.now.delays.now c.args.self.now.lines.now c.args.self.now.waves.now c.requires.can c.args.pin c.requires.pin)
    c.index-self-self.result c.index-self-self.is in
    let times : c.changes-changes.result.now ≡ c.index-self-self.result.times =
    c.changes-changes.ensures.times ∙ ap (λ (wave : Changes). wave.times) (sym c.index-self-self.is) in
    omega (
      arith,
      ap (λ (wave : Changes). length wave.times) seen,
      length-map c.index-self-self.result.times (λ (change : ℤ). change +ℤ pos (get_or c.args.self.now.delays.now c.args.pin 0)),
      ap (λ (all : List ℤ). length all) times,
      c.if-changes-place.true,
    )

pub returns : goal.returns
returns c =
    let seen =
    copy_of_read c.args.self.now.delays.now c.args.self.now.lines.now c.args.self.now.waves.now c.requires.can.one_each c.args.pin
    (pin_inside c.args.self.now.delays.now c.args.self.now.lines.now c.args.self.now.waves.now c.requires.can c.args.pin c.requires.pin)
    (line_inside c.args.self.now.delays.now c.args.self.now.lines.now c.args.self.now.waves.now c.requires.can c.args.pin c.requires.pin)
    c.index-self-self.result c.index-self-self.is in
    let times : c.changes-changes.result.now ≡ c.index-self-self.result.times =
    c.changes-changes.ensures.times ∙ ap (λ (wave : Changes). wave.times) (sym c.index-self-self.is) in
    let place = c.args.place in
    let own = c.index-self-self.result.times in
    let delay = get_or c.args.self.now.delays.now c.args.pin 0 in
    let later = λ (change : ℤ). change +ℤ pos delay in
    let long = length-map own later in
    let many : length c.changes-changes.result.now ≡ length own = ap (λ (all : List ℤ). length all) times in
    let fits : SFits w64 (get_or c.changes-changes.result.now place (pos 0)) = search rules in
    subst (λ (changes : Changes). IsTimeAt changes place (Some (to_z w64 (of_z w64 c.later.result)))) (sym seen) (
      omega (arith, long, many, c.if-changes-place.false),
      omega (arith, long, many, c.changes-changes.type_inv),
      to_z-of_z w64 c.later.result (search rules)
          ∙ c.later.ensures
          ∙ ap (λ change. change +ℤ pos delay) (to_z-of_z w64 (get_or c.changes-changes.result.now place (pos 0)) fits)
          ∙ ap (λ (all : List ℤ). later (get_or all place (pos 0))) times
          ∙ sym (get_or-map later own place (pos 0) (pos 0) (omega (arith, many, c.if-changes-place.false))),
      rising_moved own delay (subst AreTimesRising times c.changes-changes.ensures.rising),
    )
