-- A time is before all changes where it is before the soonest.
use Rattle.std.proofs.Common.{ℤ, ◌<◌, ◌≤ℤ◌, ◌<ℤ◌, IsTrue, heap_items, length, refl, sym, subst, rules, arith, SFits, w64, to_z, of_z}
use Rattle.std.specs.Prelude.{int_lt}
use Rattle.std.proofs.lemmas.Bool.{false≢true}
use Rattle.std.proofs.lemmas.Int.{ints, to_z-of_z}
use Rattle.delay_replay.specs.declared.pin_changes.PinChange.{PinChange}
use Rattle.delay_replay.proofs.Merging.{no_later}
use Rattle.delay_replay.proofs.pin_changes.is_before_all.Goals as goal

before_later : (time soonest other : ℤ) → IsTrue (int_lt time soonest) → soonest ≤ℤ other → time <ℤ other
before_later time soonest other before later = grind (arith, ints)

less_told : (a b : ℤ) → a <ℤ b → IsTrue (int_lt a b)
less_told a b less = grind (arith, ints)

pub returns-in-None : goal.returns-in-None
returns-in-None c = (
  (λ holds k d within. absurd (false≢true (c.in-None.ensures.variant.1 (omega (arith, within, c.args.nexts.now.data.ok.0))))),
  λ before. refl,
)

pub returns-in-Some : goal.returns-in-Some
returns-in-Some c =
    let time = c.args.time in
    let soonest = c.in-Some.soonest.now in
    let fits : SFits w64 soonest.time = search rules in
    let same = to_z-of_z w64 time c.ranges.time in
    let same_soonest = to_z-of_z w64 soonest.time fits in
    let first = no_later soonest _ (c.in-Some.ensures.greatest c.requires) in (
      (λ holds k d within. before_later time soonest.time _
          (subst (λ (t : ℤ). IsTrue (int_lt t soonest.time)) same
          (subst (λ (s : ℤ). IsTrue (int_lt (to_z w64 (of_z w64 time)) s)) same_soonest holds))
          (first k d within)),
      λ before.
          let some : 0 < length (heap_items c.args.nexts.now) =
          omega (arith, c.in-Some.ensures.variant.0 refl, c.args.nexts.now.data.ok.0) in
          let less = subst (λ (next : PinChange). time <ℤ next.time) (sym c.in-Some.ensures.lookup) (before 0 soonest some) in
          subst (λ (t : ℤ). IsTrue (int_lt t (to_z w64 (of_z w64 soonest.time)))) (sym same)
          (subst (λ (s : ℤ). IsTrue (int_lt time s)) (sym same_soonest) (less_told time soonest.time less)),
    )
