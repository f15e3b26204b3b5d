-- The times of a wave's changes are the times at which it changes, and no list of such times is longer. So two lists of its
-- changes are of one length, and what is said of its changes is said of each wave that is the same at each time.
use Rattle.std.proofs.Common.{◌≡◌, ◌≢◌, ⊎_elim, ℕ, zero, suc, ◌-◌, ◌<◌, ◌≤◌, ℤ, pos, ◌-ℤ◌, ◌<ℤ◌, ◌≤ℤ◌, Bool, true, false, not, cond, List}
use Rattle.std.proofs.Common.{[], ◌∷◌, ◌++◌, map, length, get_or, Contains, refl, ap, ap₂, sym, subst, ◌∙◌, arith}
use Rattle.std.specs.Bool.{beq}
use Rattle.std.specs.Int.RustNames.{int_le}
use Rattle.std.specs.List.{All}
use Rattle.std.proofs.lemmas.Int.{ints, by_lt_z}
use lib.Signed.{≤ℤ_refl}
use Rattle.std.proofs.lemmas.Bool.{cases_lt}
use Rattle.std.proofs.lemmas.List.{get_or_default, length-append}
use Rattle.std.proofs.lemmas.List.Elements.{All-push}
use Rattle.std.proofs.lemmas.List.Quantifiers.{all_pairs_push}
use Rattle.netlist.specs.Values.{parity}
use Rattle.netlist.specs.Waves.{Wave}
use Rattle.delay_replay.specs.Changes.{Changes, AreChangesOf, ChangesAt, ChangesOver, AreTimesRising, wave_at}
use Rattle.delay_replay.proofs.Turning.{come, not_come, is_odd, odd_suc, at_count}

-- of two times in a rising list the one that stands earlier is the earlier one
rising_at : (times : List ℤ) (i j : ℕ) (d : ℤ) → AreTimesRising times → i ≤ j → j < length times → get_or times i d ≤ℤ get_or times j d
rising_at times i j d rising order within =
    ⊎_elim
    (λ less. at_most (get_or times i d) (get_or times j d) (rising i j d less within))
    (λ same. let at : i ≡ j = omega arith in subst (λ k. get_or times i d ≤ℤ get_or times k d) at (≤ℤ_refl (get_or times i d)))
    (cases_lt i j)
  where
    at_most : (a b : ℤ) → a <ℤ b → a ≤ℤ b
    at_most a b less = omega (arith, ints)

-- not(b xor o) differs from not(b xor not o)
turned_differs : (before odd : Bool) → not (beq before odd) ≡ not (beq before (not odd)) → ⊥
turned_differs true true e = cc
turned_differs true false e = cc
turned_differs false true e = cc
turned_differs false false e = cc

-- at each of its changes a wave changes
pub changes_at_times : (changes : Changes) → AreTimesRising changes.times → All (ChangesAt (wave_at changes)) changes.times
changes_at_times changes rising k d within same =
    turned_differs changes.before (is_odd k)
    (at_count changes.before times (time -ℤ pos 1) k (omega arith)
    (λ j e from below. come_before (get_or times j e) (earlier j e below))
    (λ j e from inside. still_to_come (get_or times j e) (later j e from inside))
    ∙ same
    ∙ sym (at_count changes.before times time (suc k) (omega arith)
    (λ j e from below. come (get_or times j e) time (at_most j e below))
    (λ j e from inside. not_come (get_or times j e) time (after j e from inside)))
    ∙ ap (λ odd. not (beq changes.before odd)) (odd_suc k))
  where
    times : List ℤ
    times = changes.times

    time : ℤ
    time = get_or changes.times k d

    here : (e : ℤ) → get_or times k e ≡ time
    here e = get_or_default times k e d within

    earlier : (j : ℕ) (e : ℤ) → j < k → get_or times j e <ℤ time
    earlier j e below = subst (λ t. get_or times j e <ℤ t) (here e) (rising j k e below within)

    later : (j : ℕ) (e : ℤ) → k ≤ j → j < length times → time ≤ℤ get_or times j e
    later j e from inside = subst (λ t. t ≤ℤ get_or times j e) (here e) (rising_at times k j e rising from inside)

    at_most : (j : ℕ) (e : ℤ) → j < suc k → get_or times j e ≤ℤ time
    at_most j e below = subst (λ t. get_or times j e ≤ℤ t) (here e) (rising_at times j k e rising (omega arith) within)

    after : (j : ℕ) (e : ℤ) → suc k ≤ j → j < length times → time <ℤ get_or times j e
    after j e from inside = subst (λ t. t <ℤ get_or times j e) (here e) (rising k j e (omega arith) inside)

    come_before : (change : ℤ) → change <ℤ time → int_le change (time -ℤ pos 1) ≡ true
    come_before change less = grind (arith, ints)

    still_to_come : (change : ℤ) → time ≤ℤ change → int_le change (time -ℤ pos 1) ≡ false
    still_to_come change less = grind (arith, ints)

-- a time at which the parity of those that have come differs from the one right before is among the times
time_among : (times : List ℤ) (time : ℤ)
    → parity (map (λ change. int_le change (time -ℤ pos 1)) times) ≢ parity (map (λ change. int_le change time) times)
    → Contains times time
time_among [] time differs = absurd (differs refl)
time_among (change ∷ times) time differs =
    by_lt_z change time (λ less. past (time_among times time) (has_come change less))
    (λ above. by_lt_z time change (λ less. past (time_among times time) (to_come change less))
    (λ below. (zero, omega arith, same change above below)))
  where
    has_come : (change : ℤ) → change <ℤ time → int_le change (time -ℤ pos 1) ≡ int_le change time
    has_come change less = grind (arith, ints)

    to_come : (change : ℤ) → time <ℤ change → int_le change (time -ℤ pos 1) ≡ int_le change time
    to_come change less = grind (arith, ints)

    same : (change : ℤ) → time ≤ℤ change → change ≤ℤ time → change ≡ time
    same change above below = omega (arith, ints)

    past : (parity (map (λ change. int_le change (time -ℤ pos 1)) times) ≢ parity (map (λ change. int_le change time) times)
        → Contains times time)
        → int_le change (time -ℤ pos 1) ≡ int_le change time → Contains (change ∷ times) time
    past further alike =
        let found = further (λ e. differs (ap₂ (λ first odd. cond first (not odd) odd) alike e)) in
        (suc found.0, omega (arith, found.1), found.2)

-- a wave changes only at the times of its changes
pub time_is_change : (changes : Changes) (time : ℤ) → ChangesAt (wave_at changes) time → Contains changes.times time
time_is_change changes time differs =
    time_among changes.times time (λ e. differs (ap (λ odd. cond changes.before (not odd) odd) e))

-- a rising list whose times are all in another one has each time there at a place no earlier than its own
reaches : (xs ys : List ℤ) → AreTimesRising xs → AreTimesRising ys
    → ((i : ℕ) (d : ℤ) → i < length xs → Contains ys (get_or xs i d)) → (d : ℤ) (i : ℕ) → i < length xs
    → (j : ℕ) × (i ≤ j) × (j < length ys) × (get_or ys j d ≡ get_or xs i d)
reaches xs ys rising other has d zero within =
    let found = has zero d within in (
      found.0,
      omega arith,
      found.1,
      get_or_default ys found.0 d (get_or xs zero d) found.1 ∙ found.2,
    )
reaches xs ys rising other has d (suc i) within =
    let earlier = reaches xs ys rising other has d i (omega arith) in
    let found = has (suc i) d within in
    let at = get_or_default ys found.0 d (get_or xs (suc i) d) found.1 ∙ found.2 in
    let order : earlier.0 < found.0 =
    ⊎_elim (λ less. less)
    (λ back. absurd (apart (rising i (suc i) d (omega arith) within) (rising_at ys found.0 earlier.0 d other back earlier.2) at earlier.3))
    (cases_lt earlier.0 found.0) in
    (found.0, omega (arith, earlier.1), found.1, at)
  where
    apart : {a b p q : ℤ} → a <ℤ b → p ≤ℤ q → p ≡ b → q ≡ a → ⊥
    apart less order e f = omega (arith, ints)

-- so it is no longer than the other one
pub no_longer : (xs ys : List ℤ) → AreTimesRising xs → AreTimesRising ys
    → ((i : ℕ) (d : ℤ) → i < length xs → Contains ys (get_or xs i d)) → length xs ≤ length ys
no_longer xs ys rising other has =
    ⊎_elim
    (λ some. let last = reaches xs ys rising other has (pos 0) (length xs - 1) (omega arith) in omega (arith, last.1, last.2))
    (λ none. omega arith)
    (cases_lt 0 (length xs))

-- a wave changes at no more times than its changes are
pub not_over : (wave : Wave) (changes : Changes) (most : ℕ) → AreChangesOf wave changes → length changes.times ≤ most
    → ¬ ChangesOver wave most
not_over wave changes most are few over =
    let long = no_longer over.times changes.times over.rising are.rising
    (λ i d within. time_is_change changes (get_or over.times i d)
    (λ e. over.changes i d within (sym (are.shows (get_or over.times i d -ℤ pos 1)) ∙ e ∙ are.shows (get_or over.times i d)))) in
    omega (arith, over.more)

-- one change more, behind as many as are allowed, is one too many
pub over_by_one : (wave : Wave) (old : Changes) (time : ℤ) (most : ℕ) → AreTimesRising old.times
    → All (λ change. change <ℤ time) old.times → ((other : ℤ) → other <ℤ time → wave_at old other ≡ wave other)
    → most ≤ length old.times → wave_at old (time -ℤ pos 1) ≢ wave time → ChangesOver wave most
over_by_one wave old time most rising earlier shows full differs = record {
  times = old.times ++ time ∷ [];
  rising = all_pairs_push (λ a b. a <ℤ b) old.times time rising earlier;
  changes = All-push (ChangesAt wave) old.times time old_change last_change;
  more = omega (arith, length-append old.times (time ∷ []));
}
  where
    before : (change : ℤ) → change <ℤ time → (change -ℤ pos 1) <ℤ time
    before change less = omega (arith, ints)

    right_before : (time -ℤ pos 1) <ℤ time
    right_before = omega (arith, ints)

    old_change : All (ChangesAt wave) old.times
    old_change k d within e =
        let change = get_or old.times k d in
        changes_at_times old rising k d within
        (shows (change -ℤ pos 1) (before change (earlier k d within)) ∙ e ∙ sym (shows change (earlier k d within)))

    last_change : ChangesAt wave time
    last_change e = differs (shows (time -ℤ pos 1) right_before ∙ e)

-- a wave changes at each time that is kept of it
pub listed_changes : (wave : Wave) (changes : Changes) → AreChangesOf wave changes → All (ChangesAt wave) changes.times
listed_changes wave changes are i d within same =
    let time = get_or changes.times i d in
    changes_at_times changes are.rising i d within (are.shows (time -ℤ pos 1) ∙ same ∙ sym (are.shows time))

-- two lists of changes of one wave are of one length
pub same_count : (wave : Wave) (one other : Changes) → AreChangesOf wave one → AreChangesOf wave other
    → length one.times ≡ length other.times
same_count wave one other are too =
    let upto = at_most one other are too in
    let from = at_most other one too are in
    omega arith
  where
    at_most : (one other : Changes) → AreChangesOf wave one → AreChangesOf wave other → length one.times ≤ length other.times
    at_most one other are too =
        no_longer one.times other.times are.rising too.rising
        (λ i d within. let time = get_or one.times i d in
        time_is_change other time
        (λ same. listed_changes wave one are i d within (sym (too.shows (time -ℤ pos 1)) ∙ same ∙ too.shows time)))

-- what shows a wave shows each wave that is the same at each time
pub shows_same : (wave same : Wave) (changes : Changes) → ((time : ℤ) → wave time ≡ same time) → AreChangesOf wave changes
    → AreChangesOf same changes
shows_same wave same changes is are = record { rising = are.rising; shows = λ time. are.shows time ∙ is time }

-- and such a wave changes as often
pub over_same : (wave same : Wave) (most : ℕ) → ((time : ℤ) → wave time ≡ same time) → ChangesOver wave most
    → ChangesOver same most
over_same wave same most is over = record {
  times = over.times;
  rising = over.rising;
  changes = λ i d within alike.
      let time = get_or over.times i d in
      over.changes i d within (is (time -ℤ pos 1) ∙ alike ∙ sym (is time));
  more = over.more;
}
