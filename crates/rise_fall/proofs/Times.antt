-- Lists of rising times, and waves told by them, with one time more or less at the end.
use Rattle.std.proofs.Common.{◌≡◌, ℕ, suc, ◌+◌, ◌-◌, ◌<◌, ℤ, pos, negsuc, ◌+ℤ◌, ◌<ℤ◌, ◌≤ℤ◌, Bool, true, false, not, cond, List, [], ◌∷◌, ◌++◌, map, length, take, get_or, Option, None, Some, option_to_list, IsSome, refl, sym, ap, ap₂, subst, ◌∙◌, arith, ⊎_elim}
use Rattle.std.specs.Int.RustNames.{int_le}
use Rattle.std.specs.List.{All}
use Rattle.std.proofs.Math.Bool.{not-not}
use Rattle.std.proofs.Math.Seq.{take-append_seam, get_or-append_seam}
use Rattle.std.proofs.lemmas.Bool.{cases_lt}
use Rattle.std.proofs.lemmas.Int.{ints}
use Rattle.std.proofs.lemmas.List.{length-append, length-take, get_or_append_left, get_or_default, get_or-take}
use Rattle.std.proofs.lemmas.List.Elements.{All-pop, All-push, All-weaker}
use Rattle.netlist.specs.Values.{parity}
use Rattle.delay_replay.specs.Changes.{Changes, AreTimesRising, wave_at}
use Rattle.delay_replay.specs.LineWaves.{EndsAt}
use Rattle.delay_replay.proofs.Turning.{at_latest, come}
use Rattle.rise_fall.specs.Inside.Moving.{IsPut}
use Rattle.rise_fall.specs.Inside.Moving.IsPut.{swallowed}

-- what holds of all elements holds of those before the last one
pub all_front : {X : Type 0} (P : X → Type 0) (xs : List X) (last : X) → All P (xs ++ last ∷ []) → All P xs
all_front P xs last all = (All-pop P (xs ++ last ∷ []) xs (Some last) refl all).0

-- and of the last one
pub all_last : {X : Type 0} (P : X → Type 0) (xs : List X) (last : X) → All P (xs ++ last ∷ []) → P last
all_last P xs last all = (All-pop P (xs ++ last ∷ []) xs (Some last) refl all).1

-- lists with one element more that are the same were the same
pub same_front : {X : Type 0} (xs ys : List X) (x y : X) → xs ++ x ∷ [] ≡ ys ++ y ∷ [] → xs ≡ ys
same_front xs ys x y same =
    let long : length xs ≡ length ys = omega (arith, length-append xs (x ∷ []), length-append ys (y ∷ []), ap length same) in
    sym (take-append_seam xs (x ∷ [])) ∙ ap₂ take long same ∙ take-append_seam ys (y ∷ [])

-- rising times are all before the last one
pub before_last : (times : List ℤ) (last : ℤ) → AreTimesRising (times ++ last ∷ []) → All (λ change. change <ℤ last) times
before_last times last rising k d within =
    subst (λ a. a <ℤ last) (get_or_append_left times (last ∷ []) d k within)
    (subst (λ b. get_or (times ++ last ∷ []) k d <ℤ b) (get_or-append_seam times last [] d)
    (rising k (length times) d within (omega (arith, length-append times (last ∷ [])))))

-- without the last one they still rise
pub rising_front : (times : List ℤ) (last : ℤ) → AreTimesRising (times ++ last ∷ []) → AreTimesRising times
rising_front times last rising i j d less within =
    subst (λ a. a <ℤ get_or times j d) (get_or_append_left times (last ∷ []) d i (omega arith))
    (subst (λ b. get_or (times ++ last ∷ []) i d <ℤ b) (get_or_append_left times (last ∷ []) d j within)
    (rising i j d less (omega (arith, length-append times (last ∷ [])))))

-- from one time to another that is no earlier it is a number of units
pub units_between : (a b : ℤ) → a ≤ℤ b → (n : ℕ) × (b ≡ a +ℤ pos n)
units_between (pos a) (pos b) order = (b - a, omega (arith, ints))
units_between (pos a) (negsuc b) order = absurd (omega (arith, ints))
units_between (negsuc a) (pos b) order = (b + suc a, omega (arith, ints))
units_between (negsuc a) (negsuc b) order = (a - b, omega (arith, ints))

-- two turns of a value, in either order
twice_turned : (by value : Bool) → cond by (not (not value)) (not value) ≡ not (cond by (not value) value)
twice_turned true value = refl
twice_turned false value = refl

-- one more that passes turns a parity
parity_turned : {X : Type 0} (p : X → Bool) (xs : List X) (x : X) → p x ≡ true
    → parity (map p (xs ++ x ∷ [])) ≡ not (parity (map p xs))
parity_turned p [] x passes = ap (λ by. cond by true false) passes
parity_turned p (y ∷ xs) x passes =
    ap (λ odd. cond (p y) (not odd) odd) (parity_turned p xs x passes) ∙ twice_turned (p y) (parity (map p xs))

-- a wave by its value before all changes, and their times
abbrev pub wave_by : Bool → List ℤ → Changes
wave_by before times = record { before = before; times = times }

-- from a change at the end on the wave has the other value
pub from_change : (before : Bool) (times : List ℤ) (change time : ℤ) → change ≤ℤ time
    → wave_at (wave_by before (times ++ change ∷ [])) time ≡ not (wave_at (wave_by before times) time)
from_change before times change time upto =
    ap (λ odd. cond before (not odd) odd) (parity_turned (λ other. int_le other time) times change (come change time upto))
    ∙ twice_turned before (parity (map (λ other. int_le other time) times))

-- a change more turns the value behind all changes
pub ends_turned : (before : Bool) (times : List ℤ) (change : ℤ) (value : Bool) → EndsAt (wave_by before times) value
    → EndsAt (wave_by before (times ++ change ∷ [])) (not value)
ends_turned before times change value ends time all =
    from_change before times change time (all_last (λ other. other ≤ℤ time) times change all)
    ∙ ap not (ends time (all_front (λ other. other ≤ℤ time) times change all))

-- and so does one less
pub ends_back : (before : Bool) (times : List ℤ) (last : ℤ) (value : Bool) → AreTimesRising (times ++ last ∷ [])
    → EndsAt (wave_by before (times ++ last ∷ [])) value → EndsAt (wave_by before times) (not value)
ends_back before times last value rising ends time all =
    let earlier : All (λ other. other ≤ℤ last) times = All-weaker _ _ at_most times (before_last times last rising) in
    let here : last ≤ℤ last = omega (arith, ints) in
    at_latest (wave_by before times) time all
    ∙ sym (at_latest (wave_by before times) last earlier)
    ∙ sym (not-not (wave_at (wave_by before times) last))
    ∙ ap not (sym (from_change before times last last here) ∙ ends last (All-push (λ other. other ≤ℤ last) times last earlier here))
  where
    at_most : (other : ℤ) → other <ℤ last → other ≤ℤ last
    at_most other less = omega (arith, ints)

-- a change that comes no later than the last one takes it out
pub put_by_pop : (old new : List ℤ) (popped : Option ℤ) (time : ℤ) → IsSome popped → old ≡ new ++ option_to_list popped
    → ((d : ℤ) → time ≤ℤ get_or old (length old - 1) d) → IsPut old new time
put_by_pop old new None time some e upto = absurd cc
put_by_pop old new (Some last) time some e upto =
    let long : length old - 1 ≡ length new = omega (arith, length-append new (last ∷ []), ap length e) in
    swallowed last
    (subst (λ t. time ≤ℤ t)
    (ap₂ (λ xs k. get_or xs k last) e long ∙ get_or-append_seam new last [] last) (upto last))
    e

-- each of rising times is after those that stand before it
pub earlier_times : (times : List ℤ) (i : ℕ) (d : ℤ) → AreTimesRising times → i < length times
    → All (λ other. other <ℤ get_or times i d) (take i times)
earlier_times times i d rising within k e below =
    let less : k < i = omega (arith, length-take i times) in
    subst (λ a. a <ℤ get_or times i d) (sym (get_or-take i times k e less))
    (subst (λ b. get_or times k e <ℤ b) (get_or_default times i e d within) (rising k i e less within))

-- rising times are all before one that the last of them is before
pub all_before : (times : List ℤ) (time : ℤ) → AreTimesRising times
    → (0 < length times → (d : ℤ) → get_or times (length times - 1) d <ℤ time) → All (λ change. change <ℤ time) times
all_before times time rising last k d within =
    ⊎_elim
    (λ less. through (get_or times k d) (get_or times (length times - 1) d)
    (rising k (length times - 1) d less (omega arith)) (last (omega arith) d))
    (λ upto. let at : length times - 1 ≡ k = omega arith in
    subst (λ j. get_or times j d <ℤ time) at (last (omega arith) d))
    (cases_lt k (length times - 1))
  where
    through : (a b : ℤ) → a <ℤ b → b <ℤ time → a <ℤ time
    through a b less more = omega (arith, ints)
