-- The value of a wave at a time is told by how many of its changes are at or before it.
use Rattle.std.proofs.Common.{◌≡◌, ◌≢◌, add-one, ℕ, zero, suc, ◌%◌, ◌<◌, ◌≤◌, ℤ, pos, ◌+ℤ◌, ◌-ℤ◌, ◌<ℤ◌, ◌≤ℤ◌, Bool, true, false, not, cond}
use Rattle.std.proofs.Common.{eqb, List, [], ◌∷◌, ◌++◌, map, length, get_or, refl, ap, ap₂, sym, ◌∙◌, arith, ⊎_elim}
use Rattle.std.specs.Bool.{beq}
use Rattle.std.specs.Int.RustNames.{int_le}
use Rattle.std.specs.List.{All, AllWithin}
use Rattle.std.specs.List.Sorted.{IsPartitionedBy}
use Rattle.std.proofs.lemmas.Int.{ints}
use lib.Signed.{≤ℤ_refl}
use Rattle.std.proofs.lemmas.List.{get_or-map, length-map, length-append}
use Rattle.std.proofs.lemmas.List.Elements.{All-push}
use Rattle.std.proofs.lemmas.List.Quantifiers.{all_pairs_push}
use Rattle.std.proofs.lemmas.Bool.{cases_lt}
use Rattle.std.proofs.lemmas.Bool.Decides.{nat_tests}
use Rattle.netlist.specs.Values.{parity}
use Rattle.delay_replay.specs.declared.gate.TheConstants.{MOST_CHANGES}
use Rattle.delay_replay.specs.AddedChanges.{IsTurned}
use Rattle.delay_replay.specs.Changes.{Changes, AreChangesOf, AreTimesRising, wave_at}

-- a change that has come by a time
pub come : (change time : ℤ) → change ≤ℤ time → int_le change time ≡ true
come change time is = grind (arith, ints)

-- and one that is still to come
pub not_come : (change time : ℤ) → time <ℤ change → int_le change time ≡ false
not_come change time is = grind (arith, ints)

-- a value that no change turns
pub unturned : (value : Bool) → cond value (not false) false ≡ value
unturned true = refl
unturned false = refl

-- whether a number is odd
abbrev pub is_odd : ℕ → Bool
is_odd n = eqb (n % 2) 1

-- one more turns it
pub odd_suc : (n : ℕ) → is_odd (suc n) ≡ not (is_odd n)
odd_suc n = grind (arith, nat_tests)

-- where none passes the parity is even
pub parity_none : {X : Type 0} (p : X → Bool) (xs : List X)
    → ((k : ℕ) (d : X) → k < length xs → p (get_or xs k d) ≡ false) → parity (map p xs) ≡ false
parity_none p [] fails = refl
parity_none p (x ∷ xs) fails =
    ap (λ first. cond first (not (parity (map p xs))) (parity (map p xs))) (fails zero x (omega arith))
    ∙ parity_none p xs (λ k d within. fails (suc k) d (omega arith))

-- where the first elements pass and no others, the parity is that of their number
pub parity_front : {X : Type 0} (p : X → Bool) (xs : List X) (n : ℕ) → n ≤ length xs
    → ((k : ℕ) (d : X) → k < n → p (get_or xs k d) ≡ true)
    → ((k : ℕ) (d : X) → n ≤ k → k < length xs → p (get_or xs k d) ≡ false)
    → parity (map p xs) ≡ is_odd n
parity_front p xs zero within passes fails = parity_none p xs (λ k d inside. fails k d (omega arith) inside)
parity_front p [] (suc n) within passes fails = absurd (omega arith)
parity_front p (x ∷ xs) (suc n) within passes fails =
    ap (λ first. cond first (not (parity (map p xs))) (parity (map p xs))) (passes zero x (omega arith))
    ∙ ap not (parity_front p xs n (omega arith) (λ k d inside. passes (suc k) d (omega arith))
    (λ k d from inside. fails (suc k) d (omega arith) (omega arith)))
    ∙ sym (odd_suc n)

-- an element at the end that does not pass leaves the parity
pub parity_skip : {X : Type 0} (p : X → Bool) (xs : List X) (x : X) → p x ≡ false
    → parity (map p (xs ++ x ∷ [])) ≡ parity (map p xs)
parity_skip p [] x fails = ap (λ last. cond last true false) fails
parity_skip p (y ∷ ys) x fails = ap (λ rest. cond (p y) (not rest) rest) (parity_skip p ys x fails)

-- a value turned by a parity, as the program computes it
pub turned : (before odd : Bool) → cond before (not odd) odd ≡ not (beq before odd)
turned true true = refl
turned true false = refl
turned false true = refl
turned false false = refl

-- the value at a time by which so many changes have come, and after which the others come
pub at_count : (before : Bool) (times : List ℤ) (time : ℤ) (n : ℕ) → n ≤ length times
    → AllWithin (λ change. int_le change time ≡ true) times 0 n
    → AllWithin (λ change. int_le change time ≡ false) times n (length times)
    → not (beq before (is_odd n)) ≡ wave_at (record { before = before; times = times }) time
at_count before times time n within passes fails =
    sym (ap (λ odd. cond before (not odd) odd)
    (parity_front (λ change. int_le change time) times n within (λ k d inside. passes k d (omega arith) inside) fails)
    ∙ turned before (is_odd n))

-- of rising times those that have come are the first
pub rising_parted : (times : List ℤ) (time : ℤ) → AreTimesRising times → IsPartitionedBy (λ change. int_le change time) times
rising_parted times time rising i j d order within come =
    ⊎_elim
    (λ less. earlier (get_or times i d) (get_or times j d) (rising i j d less within) come)
    (λ same. ap (λ k. int_le (get_or times k d) time) (omega arith) ∙ come)
    (cases_lt i j)
  where
    earlier : (a b : ℤ) → a <ℤ b → int_le b time ≡ true → int_le a time ≡ true
    earlier a b less come = grind (arith, ints)

-- before all changes none has come
pub at_earliest : (changes : Changes) (time : ℤ) → All (λ change. time <ℤ change) changes.times
    → wave_at changes time ≡ changes.before
at_earliest changes time later =
    ap (λ odd. cond changes.before (not odd) odd) (parity_none (λ change. int_le change time) changes.times
    (λ k d within. not_come (get_or changes.times k d) time (later k d within)))
    ∙ unturned changes.before

-- after all changes all have come
pub at_latest : (changes : Changes) (time : ℤ) → All (λ change. change ≤ℤ time) changes.times
    → wave_at changes time ≡ not (beq changes.before (is_odd (length changes.times)))
at_latest changes time earlier =
    sym (at_count changes.before changes.times time (length changes.times) (omega arith)
    (λ k d from within. come (get_or changes.times k d) time (earlier k d within)) (λ k d from within. absurd (omega arith)))

-- a wave that is later by a delay has its changes later by the delay
pub at_moved : (before : Bool) (times : List ℤ) (delay : ℕ) (time : ℤ)
    → wave_at (record { before = before; times = map (λ change. change +ℤ pos delay) times }) time
    ≡ wave_at (record { before = before; times = times }) (time -ℤ pos delay)
at_moved before times delay time = ap (λ odd. cond before (not odd) odd) (moved times)
  where
    same : (change : ℤ) → int_le (change +ℤ pos delay) time ≡ int_le change (time -ℤ pos delay)
    same change = grind (arith, ints)

    moved : (times : List ℤ) → parity (map (λ change. int_le change time) (map (λ change. change +ℤ pos delay) times))
        ≡ parity (map (λ change. int_le change (time -ℤ pos delay)) times)
    moved [] = refl
    moved (change ∷ rest) = ap₂ (λ first odd. cond first (not odd) odd) (same change) (moved rest)

-- times that are all moved by a delay still rise
pub rising_moved : (times : List ℤ) (delay : ℕ) → AreTimesRising times → AreTimesRising (map (λ change. change +ℤ pos delay) times)
rising_moved times delay rising i j d less within =
    let inside : j < length times = omega (arith, length-map {A = ℤ} {B = ℤ}) in
    moved (get_or times i d) (get_or times j d)
    (get_or-map (λ change. change +ℤ pos delay) times i d d (omega arith))
    (get_or-map (λ change. change +ℤ pos delay) times j d d inside) (rising i j d less inside)
  where
    moved : {p q : ℤ} (a b : ℤ) → p ≡ a +ℤ pos delay → q ≡ b +ℤ pos delay → a <ℤ b → p <ℤ q
    moved a b e f less = omega (arith, ints)

-- a wave that is later by a delay, out of its changes
pub moved : (changes : Changes) (delay : ℕ) → AreTimesRising changes.times
    → AreChangesOf (λ time. wave_at changes (time -ℤ pos delay))
    (record { before = changes.before; times = map (λ change. change +ℤ pos delay) changes.times })
moved changes delay rising = record {
  rising = rising_moved changes.times delay rising;
  shows = at_moved changes.before changes.times delay;
}

-- a change that is still to come has no say
pub at_later_change : (before : Bool) (times : List ℤ) (change time : ℤ) → time <ℤ change
    → wave_at (record { before = before; times = times ++ change ∷ [] }) time
    ≡ wave_at (record { before = before; times = times }) time
at_later_change before times change time later =
    ap (λ odd. cond before (not odd) odd) (parity_skip (λ other. int_le other time) times change (not_come change time later))

-- values that are told apart differ
pub apart : (a b : Bool) → not (beq a b) ≡ true → a ≢ b
apart true true is same = cc
apart true false is same = cc
apart false true is same = cc
apart false false is same = cc

-- and others are the same
pub alike : (a b : Bool) → not (beq a b) ≡ false → a ≡ b
alike true true is = refl
alike true false is = cc
alike false true is = cc
alike false false is = refl

-- changes that come before a time have come from that time on
pub come_from : (times : List ℤ) (time other : ℤ) → All (λ change. change <ℤ time) times → time ≤ℤ other
    → All (λ change. change ≤ℤ other) times
come_from times time other earlier from k d within = through (get_or times k d) (earlier k d within) from
  where
    through : (change : ℤ) → change <ℤ time → time ≤ℤ other → change ≤ℤ other
    through change less upto = omega (arith, ints)

-- and so has a change at that time, behind them
all_come_from : (times : List ℤ) (time other : ℤ) → All (λ change. change <ℤ time) times → time ≤ℤ other
    → All (λ change. change ≤ℤ other) (times ++ time ∷ [])
all_come_from times time other earlier from =
    All-push (λ change. change ≤ℤ other) times time (come_from times time other earlier from) from

-- a wave that has the value behind its changes has it from then on
pub turned_by_none : (old : Changes) (time : ℤ) (value : Bool) → AreTimesRising old.times
    → All (λ change. change <ℤ time) old.times
    → ((other : ℤ) → All (λ change. change ≤ℤ other) old.times → wave_at old other ≡ value)
    → IsTurned old old time value
turned_by_none old time value rising earlier at_end = record {
  rising = rising;
  within = come_from old.times time time earlier (≤ℤ_refl time);
  until = λ other less. refl;
  from = λ other upto. at_end other (come_from old.times time other earlier upto);
  few = λ few. few;
}

-- a change behind all others turns the value from its time on
pub turned_by_change : (old : Changes) (time : ℤ) (value latest : Bool) → AreTimesRising old.times
    → All (λ change. change <ℤ time) old.times
    → ((other : ℤ) → All (λ change. change ≤ℤ other) old.times → wave_at old other ≡ latest) → not (beq latest value) ≡ true
    → length old.times < MOST_CHANGES
    → IsTurned old (record { before = old.before; times = old.times ++ time ∷ [] }) time value
turned_by_change old time value latest rising earlier at_end differs room = record {
  rising = all_pairs_push (λ a b. a <ℤ b) old.times time rising earlier;
  within = all_come_from old.times time time earlier (≤ℤ_refl time);
  until = λ other less. at_later_change old.before old.times time other less;
  from = λ other upto.
      let before = come_from old.times time other earlier upto in
      at_latest (record { before = old.before; times = old.times ++ time ∷ [] }) other (all_come_from old.times time other earlier upto)
      ∙ ap (λ n. not (beq old.before (is_odd n))) (length-append old.times (time ∷ []) ∙ add-one (length old.times))
      ∙ ap (λ odd. not (beq old.before odd)) (odd_suc (length old.times))
      ∙ swapped old.before (is_odd (length old.times)) value
      (λ same. apart latest value differs (sym (at_end other before) ∙ at_latest old other before ∙ same));
  few = λ few. omega (arith, length-append old.times (time ∷ []));
}
  where
    swapped : (before odd value : Bool) → not (beq before odd) ≢ value → not (beq before (not odd)) ≡ value
    swapped true true true apart = refl
    swapped true true false apart = absurd (apart refl)
    swapped true false true apart = absurd (apart refl)
    swapped true false false apart = refl
    swapped false true true apart = absurd (apart refl)
    swapped false true false apart = refl
    swapped false false true apart = refl
    swapped false false false apart = absurd (apart refl)
