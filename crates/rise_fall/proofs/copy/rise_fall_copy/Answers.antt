-- What is kept is the copy of the changes seen so far, and at the end of all.
use Rattle.std.proofs.Common.{◌≡◌, ℤ, pos, ◌+ℤ◌, ◌≤ℤ◌, not, nat_le, List, [], take, take_all, get_or, length, ap, ap₂, sym, subst, ◌∙◌, SFits, w64, rules, arith}
use Rattle.std.proofs.lemmas.Bool.{cond-true, cond-false}
use Rattle.std.proofs.lemmas.Int.{ints}
use Rattle.std.proofs.lemmas.List.{take_more}
use Rattle.rise_fall.specs.Waves.{risen_fallen}
use Rattle.delay_replay.specs.declared.wave.TheConstants.{LATEST_CHANGE}
use Rattle.delay_replay.specs.Changes.{AreChangesOf, wave_at}
use Rattle.rise_fall.specs.Inside.Moving.{IsPut}
use Rattle.rise_fall.proofs.Swallowing.{IsCopied, delay_to, none_copied, one_more, slower}
use Rattle.rise_fall.proofs.Times.{earlier_times}
use Rattle.rise_fall.proofs.copy.rise_fall_copy.Goals.{then-value, else-value}
use Rattle.rise_fall.proofs.copy.rise_fall_copy.Goals as goal

pub loop-change-init : goal.loop-change-init
loop-change-init c =
    let slow = nat_le c.args.fall c.args.rise in
    let before = c.earliest-before.result in record {
      copied = subst (λ kept. IsCopied c.args.rise c.args.fall slow before [] kept before) (sym c.in_ok-times.ensures.items)
          (none_copied c.args.rise c.args.fall slow before);
      few = omega (arith, c.in_ok-times.ensures.len);
      room = omega (arith, c.in_ok-times.ensures.capacity);
    }

pub loop-change-preserved : goal.loop-change-preserved
loop-change-preserved c =
    let rise = c.args.rise in
    let fall = c.args.fall in
    let before = c.earliest-before.result in
    let changes = c.changes-changes.result.now in
    let i = c.loop-change.change-index in
    let value = c.loop-change.value in
    let kept = c.loop-change.times.items in
    let new = c.put.new.times.items in
    let change = get_or changes i (pos 0) in
    let delay : c.if-value.delay ≡ delay_to rise fall (not value) = elim c.if-value.branch [
      | then-value w ↦ w.delay-is ∙ sym (cond-true (not value) rise fall (ap not w.if-value.true))
      | else-value w ↦ w.delay-is ∙ sym (cond-false (not value) rise fall (ap not w.if-value.false))
    ] in
    let fits : SFits w64 change = search rules in
    let room : change ≤ℤ LATEST_CHANGE =
    subst (λ (times : List ℤ). get_or times i (pos 0) ≤ℤ LATEST_CHANGE) (sym c.changes-changes.ensures.times)
    (c.requires i (pos 0) (omega (arith, ap (λ (times : List ℤ). length times) c.changes-changes.ensures.times))) in
    let put : IsPut kept new (change +ℤ pos (delay_to rise fall (not value))) =
    subst (λ t. IsPut kept new t) (omega (arith, ints, delay)) c.put.ensures.put in record {
      copied = subst (λ seen. IsCopied rise fall (nat_le fall rise) before seen new (not value)) (sym (take_more changes i (pos 0) c.loop-change-test.true))
          (one_more rise fall (nat_le fall rise) (slower rise fall) before (take i changes) kept change value new
          (earlier_times changes i (pos 0) c.changes-changes.ensures.rising c.loop-change-test.true) c.loop-change.invariant.copied put);
      few = omega (arith, c.put.ensures.len, c.loop-change.invariant.few);
      room = omega (arith, c.put.ensures.capacity, c.loop-change.invariant.room);
    }

pub returns : goal.returns
returns c =
    let rise = c.args.rise in
    let fall = c.args.fall in
    let changes = c.changes-changes.result.now in
    let copied = c.loop-change.invariant.copied in
    let whole : take c.loop-change.change-index changes ≡ c.args.wave.now.times =
    take_all c.loop-change.change-index changes c.loop-change-test.false ∙ c.changes-changes.ensures.times in
    subst (AreChangesOf (risen_fallen rise fall (wave_at c.args.wave.now))) (sym c.new.ensures)
    (record {
      rising = copied.rising;
      shows = λ time. copied.shows time
          ∙ ap₂ (λ first times. risen_fallen rise fall (wave_at (record { before = first; times = times })) time)
          c.earliest-before.ensures.before whole;
    })
