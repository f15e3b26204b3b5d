-- What a pin shows by its next change, and how many pins are 1 once that change has come.
use Rattle.std.proofs.Common.{◌≡◌, ℕ, suc, ◌+◌, ◌<◌, ◌≤◌, ℤ, pos, ◌<ℤ◌, ◌≤ℤ◌, Bool, true, false, not, cond, List, [], ◌∷◌, ◌++◌}
use Rattle.std.proofs.Common.{Option, None, Some, option_to_list, map, drop, length, get_or, refl, ap, ap₂, sym, subst, add-zero, ◌∙◌}
use Rattle.std.proofs.Common.{arith, drop_of_length-le}
use Rattle.std.specs.Int.RustNames.{int_le}
use Rattle.std.specs.List.{All, sum_by}
use Rattle.std.proofs.lemmas.Int.{ints}
use Rattle.std.proofs.lemmas.List.{drop_more, get_or-drop, get_or_default, length-drop}
use Rattle.std.proofs.lemmas.List.Elements.{All-nil, All-cons, All-head, All-tail, All-append}
use Rattle.std.proofs.lemmas.List.Sorted.{All-permutation, sum_by-IsPermutation, sum_by_popped}
use Rattle.std.proofs.lemmas.List.Sums.{sum_by-cons, sum_by-append}
use Rattle.netlist.specs.Values.{parity}
use Rattle.delay_replay.specs.declared.pin_changes.PinChange.{PinChange}
use Rattle.delay_replay.specs.Changes.{Changes}
use Rattle.delay_replay.specs.PinChanges.{one, ones, copy_at, turned_by, behind, shown, IsPinChange, IsChangeAt, IsNextOrNone}
use Rattle.delay_replay.specs.PinChanges.{IsBeforeAll, AreCounted, AreAmong, PassesChange}
use Rattle.delay_replay.proofs.PinCounts.{twice}
use Rattle.delay_replay.proofs.Turning.{come, not_come, unturned, parity_none}

module _ (waves : List Changes) (next : PinChange) (time : ℤ) where
  -- how many of the changes behind it have come
  abbrev odd : Bool
  odd = parity (map (λ change. int_le change time) (behind waves next))

  -- until its next change a pin shows the value that it has until then
  pub shown_until : IsPinChange waves next → time <ℤ next.time → shown waves next time ≡ not next.rises
  shown_until is before =
      ap₂ (λ has rest. cond (not next.rises) (not (cond has (not rest) rest)) (cond has (not rest) rest))
      (not_come next.time time before)
      (parity_none (λ change. int_le change time) (behind waves next)
      (λ k d inside. not_come (get_or (behind waves next) k d) time
      (later (get_or (behind waves next) k d) (is.first k d inside))))
      ∙ unturned (not next.rises)
    where
      later : (a : ℤ) → next.time <ℤ a → time <ℤ a
      later a e = omega (arith, ints)

  -- from it on a pin shows the other value, turned by the changes behind it
  pub shown_from : next.time ≤ℤ time → shown waves next time ≡ turned_by next.rises (behind waves next) time
  shown_from has =
      ap (λ has. cond (not next.rises) (not (cond has (not odd) odd)) (cond has (not odd) odd)) (come next.time time has)
      ∙ turned next.rises odd
    where
      turned : (rises rest : Bool)
          → cond (not rises) (not (cond true (not rest) rest)) (cond true (not rest) rest) ≡ cond rises (not rest) rest
      turned true true = refl
      turned true false = refl
      turned false true = refl
      turned false false = refl

module _ (waves : List Changes) (pin : ℕ) (place : ℕ) (until : Bool) where
  -- a value at a time, turned by a change and by those behind it
  abbrev turned_at : ℤ → Bool → ℤ → List ℤ → Bool
  turned_at time value change times = parity (value ∷ int_le change time ∷ map (λ other. int_le other time) times)

  -- what the next change of a pin shows is what its changes from there on show
  shown_next : (next : PinChange) → IsChangeAt (copy_at waves pin) pin place until next → (time : ℤ)
      → turned_by until (drop place (copy_at waves pin).times) time ≡ shown waves next time
  shown_next next is time =
      ap (λ (times : List ℤ). turned_by until times time) (drop_more (copy_at waves pin).times place (pos 0) is.inside)
      ∙ ap₂ (λ value at. turned_at time value at (drop (place + 1) (copy_at waves pin).times))
      (sym (twice until) ∙ ap not (sym is.rises)) (sym is.time)
      ∙ ap₂ (λ from own. turned_at time (not next.rises) next.time (drop from (copy_at waves own).times))
      (sym is.behind) (sym is.pin)

  -- a pin counts by its next change as it counts by its line's changes from there on
  pub next_counts : (next : Option PinChange) → IsNextOrNone (copy_at waves pin) pin place until next → (time : ℤ)
      → one (turned_by until (drop place (copy_at waves pin).times) time)
      + sum_by (λ n. one (not n.rises)) (option_to_list next)
      ≡ one until + sum_by (λ n. one (shown waves n time)) (option_to_list next)
  next_counts None none time =
      ap (λ (times : List ℤ). one (turned_by until times time) + 0) (drop_of_length-le (copy_at waves pin).times none)
      ∙ ap (λ value. one value + 0) (unturned until)
  next_counts (Some next) is time =
      sums _ _ _ _ (ap one (shown_next next is time)) (ap one (ap not is.rises ∙ twice until))
    where
      sums : (a b c d : ℕ) → a ≡ b → c ≡ d → a + (0 + c) ≡ d + (0 + b)
      sums a b c d e f = omega arith

  -- of the pin's values before and behind its next change each counts once at most
  pub next_among : (next : Option PinChange) → IsNextOrNone (copy_at waves pin) pin place until next
      → (sum_by (λ n. one (not n.rises)) (option_to_list next) ≤ one until)
      × (sum_by (λ n. one n.rises) (option_to_list next) ≤ one (not until))
  next_among None none = (omega arith, omega arith)
  next_among (Some next) is = (
    same _ _ (ap one (ap not is.rises ∙ twice until)),
    same _ _ (ap one is.rises),
  )
    where
      same : (a b : ℕ) → a ≡ b → 0 + a ≤ b
      same a b e = omega arith

  -- the next change of a pin comes before those behind it, and not before the one in front of it
  pub next_each : pin < length waves → (next : Option PinChange)
      → IsNextOrNone (copy_at waves pin) pin place until next → All (IsPinChange waves) (option_to_list next)
  next_each inside None none = All-nil (IsPinChange waves)
  next_each inside (Some next) is =
      All-cons (IsPinChange waves) next [] (record {
        pin = subst (λ own. own < length waves) (sym is.pin) inside;
        first = subst (λ own. All (λ change. next.time <ℤ change) (drop next.behind (copy_at waves own).times)) (sym is.pin)
            (subst (λ from. All (λ change. next.time <ℤ change) (drop from times)) (sym is.behind)
            (λ k d within. later (get_or times place d) (get_or times (place + 1 + k) d) _
            (is.rising place (place + 1 + k) d (omega arith) (omega (arith, length-drop (place + 1) times)))
            (is.time ∙ get_or_default times place (pos 0) d is.inside)
            (get_or-drop (place + 1) times k d)));
      }) (All-nil (IsPinChange waves))
    where
      times : List ℤ
      times = (copy_at waves pin).times

      later : (a b e : ℤ) → a <ℤ b → next.time ≡ a → e ≡ b → next.time <ℤ e
      later a b e less at is = omega (arith, ints)

-- the next change of a pin comes no sooner than the one that it follows
pub next_later : (waves : List Changes) (soonest : PinChange) → IsPinChange waves soonest → (next : Option PinChange)
    → IsNextOrNone (copy_at waves soonest.pin) soonest.pin soonest.behind soonest.rises next
    → All (λ other. soonest.time ≤ℤ other.time) (option_to_list next)
next_later waves soonest each None none = All-nil (λ other. soonest.time ≤ℤ other.time)
next_later waves soonest each (Some next) is =
    All-cons (λ other. soonest.time ≤ℤ other.time) next []
    (later (get_or (behind waves soonest) 0 (pos 0)) (get_or times soonest.behind (pos 0))
    (each.first 0 (pos 0) (omega (arith, length-drop soonest.behind times, is.inside)))
    (get_or-drop soonest.behind times 0 (pos 0) ∙ ap (λ n. get_or times n (pos 0)) (add-zero soonest.behind)) is.time)
    (All-nil (λ other. soonest.time ≤ℤ other.time))
  where
    times : List ℤ
    times = (copy_at waves soonest.pin).times

    later : (a b : ℤ) → soonest.time <ℤ a → a ≡ b → next.time ≡ b → soonest.time ≤ℤ next.time
    later a b less same at = omega (arith, ints)

-- how many changes are still to come
abbrev pub still_to_come : List Changes → List PinChange → ℕ
still_to_come waves nexts = sum_by (λ next. suc (length (behind waves next))) nexts

-- behind a change there is one fewer than behind the one in front of it
next_fewer : (waves : List Changes) (soonest : PinChange) (next : Option PinChange)
    → IsNextOrNone (copy_at waves soonest.pin) soonest.pin soonest.behind soonest.rises next
    → still_to_come waves (option_to_list next) ≤ length (behind waves soonest)
next_fewer waves soonest None none = omega arith
next_fewer waves soonest (Some next) is =
    one_fewer (length (behind waves next)) (length (behind waves soonest))
    (ap length (drop_more (copy_at waves soonest.pin).times soonest.behind (pos 0) is.inside)
    ∙ ap₂ (λ from own. suc (length (drop from (copy_at waves own).times))) (sym is.behind) (sym is.pin))
  where
    one_fewer : (n m : ℕ) → m ≡ suc n → 0 + suc n ≤ m
    one_fewer n m e = omega arith

module _ (waves : List Changes) (soonest : PinChange) (old new : List PinChange) (passes : PassesChange waves soonest old new) where
  -- a sum over the store before and after
  was : (f : PinChange → ℕ) → sum_by f passes.rest + f soonest ≡ sum_by f old
  was f = sum_by_popped f soonest old passes.rest passes.was

  now : (f : PinChange → ℕ) → sum_by f new ≡ sum_by f (option_to_list passes.next) + sum_by f passes.rest
  now f =
      sum_by-IsPermutation f (option_to_list passes.next ++ passes.rest) new passes.now
      ∙ sum_by-append f (option_to_list passes.next) passes.rest

  -- what holds of each change in the store, and of the next one of the pin, holds of each change in the store behind
  pub passed_each : (P : PinChange → Type 0) → All P old → All P (option_to_list passes.next) → All P new
  passed_each P all next =
      All-permutation P (option_to_list passes.next ++ passes.rest) new passes.now
      (All-append P (option_to_list passes.next) passes.rest next
      (All-tail P soonest passes.rest (All-permutation P old (soonest ∷ passes.rest) passes.was all)))

  -- what holds of each change in the store holds of the soonest
  pub passed_one : (P : PinChange → Type 0) → All P old → P soonest
  passed_one P all = All-head P soonest passes.rest (All-permutation P old (soonest ∷ passes.rest) passes.was all)

  -- fewer changes are still to come
  pub passed_fewer : still_to_come waves new < still_to_come waves old
  passed_fewer =
      sums _ _ _ _ _ (was (λ next. suc (length (behind waves next)))) (now (λ next. suc (length (behind waves next))))
      (next_fewer waves soonest passes.next passes.is)
    where
      sums : (r n o s w : ℕ) → r + suc n ≡ w → o ≡ s + r → s ≤ n → o < w
      sums r n o s w e f g = omega arith

  module _ (count counted : ℕ) (counts : counted + one (not soonest.rises) ≡ count + one soonest.rises) where
    -- the count that the soonest change leaves is that of the pins from its time on
    pub passed_counted : (values : List Bool) (time : ℤ) → soonest.time ≤ℤ time → AreCounted waves values count old time
        → AreCounted waves values counted new time
    passed_counted values time has are =
        let from = next_counts waves soonest.pin soonest.behind soonest.rises passes.next passes.is time in
        let here = ap one (shown_from waves soonest time has) in
        sums _ _ _ _ _ _ _ _ _ _ _ _ _ are (was (λ n. one (not n.rises))) (was (λ n. one (shown waves n time)))
        (now (λ n. one (not n.rises))) (now (λ n. one (shown waves n time))) here from counts
      where
        sums : (v so sn ro rs none some shown_old shown_new until f t r : ℕ)
            → v + so ≡ count + sn → ro + until ≡ so → rs + f ≡ sn
            → shown_old ≡ none + ro → shown_new ≡ some + rs → f ≡ t → t + none ≡ r + some → counted + until ≡ count + r
            → v + shown_old ≡ counted + shown_new
        sums v so sn ro rs none some shown_old shown_new until f t r a b c d e g h i = omega arith

    -- likewise its bounds
    pub passed_among : (pins : ℕ) → AreAmong pins count old → AreAmong pins counted new
    passed_among pins among =
        let next = next_among waves soonest.pin soonest.behind soonest.rises passes.next passes.is in record {
          least = omega (arith, among.least, was (λ n. one (not n.rises)), now (λ n. one (not n.rises)), next.0, counts);
          most = omega (arith, among.most, was (λ n. one n.rises), now (λ n. one n.rises), next.1, counts);
        }

-- before all next changes as many pins are 1 as are counted
pub still_counted : (waves : List Changes) (nexts : List PinChange) (values : List Bool) (count : ℕ) (time : ℤ)
    → All (IsPinChange waves) nexts → IsBeforeAll time nexts → AreCounted waves values count nexts time → ones values ≡ count
still_counted waves nexts values count time each before are = cancel _ _ _ _ are (alike nexts each before)
  where
    cancel : (v a c b : ℕ) → v + a ≡ c + b → b ≡ a → v ≡ c
    cancel v a c b e f = omega arith

    alike : (nexts : List PinChange) → All (IsPinChange waves) nexts → IsBeforeAll time nexts
        → sum_by (λ n. one (shown waves n time)) nexts ≡ sum_by (λ n. one (not n.rises)) nexts
    alike [] each before = refl
    alike (next ∷ nexts) each before =
        sum_by-cons (λ (n : PinChange). one (shown waves n time)) next nexts
        ∙ ap₂ (λ bit rest. one bit + rest)
        (shown_until waves next time (All-head (IsPinChange waves) next nexts each) (All-head (λ n. time <ℤ n.time) next nexts before))
        (alike nexts (All-tail (IsPinChange waves) next nexts each) (All-tail (λ n. time <ℤ n.time) next nexts before))
        ∙ sym (sum_by-cons (λ (n : PinChange). one (not n.rises)) next nexts)
