-- After the last turn all changes are moved.
use Rattle.std.proofs.Common.{◌≡◌, ℤ, List, pos, ◌+ℤ◌, ◌-ℤ◌, [], ◌∷◌, ◌++◌, ap₂, map, take_all, sym, ap, ◌∙◌, subst, rules, get_or, SFits, w64, arith}
use Rattle.std.proofs.lemmas.Int.{to_z-of_z}
use Rattle.std.proofs.lemmas.List.{map_more}
use Rattle.delay_replay.specs.Changes.{Changes, AreChangesOf, AreTimesRising, wave_at}
use Rattle.delay_replay.proofs.Turning.{moved, rising_moved}
use Rattle.delay_replay.proofs.wave.pin_copy.Goals as goal

pub loop-change-preserved : goal.loop-change-preserved
loop-change-preserved c =
    let later = λ (change : ℤ). change +ℤ pos c.args.delay in
    let times = c.deref-change-items.result.now in
    let place = c.loop-change.change-index in
    let fits : SFits w64 (get_or times place (pos 0)) = search rules in record {
      moved = c.push_reserved.ensures.items
          ∙ ap₂ (λ (front : List ℤ) last. front ++ last ∷ []) c.loop-change.invariant.moved
          (to_z-of_z w64 c.later.result (search rules) ∙ c.later.ensures ∙ ap later (to_z-of_z w64 (get_or times place (pos 0)) fits))
          ∙ sym (map_more later times place (pos 0) c.loop-change-test.true);
      each = omega (arith, c.push_reserved.ensures.len, c.loop-change.invariant.each);
      room = omega (arith, c.push_reserved.ensures.capacity, c.loop-change.invariant.room);
    }

pub push_reserved-requires : goal.push_reserved-requires
push_reserved-requires c = omega (arith, c.loop-change.invariant.each, c.loop-change.invariant.room, c.loop-change-test.true)

-- all changes are moved
all_moved : (c : goal.After-loop-change) → c.loop-change.times.items ≡ map (λ change. change +ℤ pos c.args.delay) c.wave.inside.times.items
all_moved c =
    c.loop-change.invariant.moved
    ∙ ap (map (λ change. change +ℤ pos c.args.delay))
    (take_all c.loop-change.change-index c.deref-change-items.result.now c.loop-change-test.false ∙ c.deref-change-items.ensures.value)

pub invariant_of-result : goal.invariant_of-result
invariant_of-result c =
    subst AreTimesRising (sym (all_moved c))
    (rising_moved c.wave.inside.times.items c.args.delay c.wave.invariant)

pub returns : goal.returns
returns c =
    let later = λ (change : ℤ). change +ℤ pos c.args.delay in
    subst (λ (times : List ℤ). AreChangesOf (λ time. wave_at c.args.wave.now (time -ℤ pos c.args.delay)) (record { before = c.wave.inside.before; times = times }))
    (sym (all_moved c))
    (subst (λ (w : Changes). AreChangesOf (λ time. wave_at w (time -ℤ pos c.args.delay)) (record { before = c.wave.inside.before; times = map later c.wave.inside.times.items }))
    c.wave.view_is
    (moved (record { before = c.wave.inside.before; times = c.wave.inside.times.items }) c.args.delay c.wave.invariant))
