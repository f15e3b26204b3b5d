-- Each set that is assumed of a line takes some state away, so there are at most as many as there are states of all lines.
use Rattle.std.proofs.Common.{◌≡◌, ◌≢◌, ℕ, zero, suc, ◌+◌, ◌*◌, ◌^◌, ◌<◌, ◌≤◌, ◌==◌, ⊎_elim, Bool, true, false, if◌then◌else◌, List, [], ◌∷◌, ◌++◌, length, take, bit_and, refl, sym, ap, ◌∙◌, subst, arith}
use Rattle.std.specs.Int.{bit_at}
use Rattle.std.specs.List.{fold}
use Rattle.std.proofs.lemmas.Bool.{cases_eq, cases_lt, ne_eqb, eq-eqb}
use Rattle.std.proofs.lemmas.List.Sums.{fold_push}
use Rattle.std.proofs.lemmas.Nat.Bits.{bit_at-lt, bit_at_and, same_from_bits_below}
use Rattle.std.proofs.lemmas.Nat.{and_le_l, pow_pos}
use Rattle.std.proofs.lemmas.List.{append-nil, append_assoc}
use Rattle.pd_base.specs.declared.ids.LineId.{LineId}
use Rattle.state_sets.specs.declared.state.StateSet.{StateSet}
use Rattle.state_sets.specs.States.{all_states, both_sets}
use Rattle.implication.specs.declared.assumption.Assumption.{Assumption}
use Rattle.implication.specs.declared.assumption.Assumption.TheVariants.{Entered, Assumed}
use Rattle.implication.specs.Assumptions.{left_of, left_by, entered_pins}
use Rattle.implication.specs.Kept.{TakesSome, TakesFrom, DoShrink, IsAboutLine}

-- how many of the first states a set has
abbrev pub size : ℕ → ℕ → ℕ
size zero set = 0
size (suc n) set = bit_at set n + size n set

-- no more than there are
pub size_most : (n set : ℕ) → size n set ≤ n
size_most zero set = omega arith
size_most (suc n) set = omega (arith, bit_at-lt set n, size_most n set)

-- a set cut by another has at most as many
pub size_cut : (n a b : ℕ) → size n (bit_and a b) ≤ size n a
size_cut zero a b = omega arith
size_cut (suc n) a b = omega (arith, bit_at_and a b n, size_cut n a b)

-- and where it has as many, it has the same
pub size_same : (n a b : ℕ) → size n a ≤ size n (bit_and a b) → (k : ℕ) → k < n → bit_at a k ≡ bit_at (bit_and a b) k
size_same zero a b same k below = absurd (omega arith)
size_same (suc n) a b same k below = ⊎_elim
    (λ (last : k ≡ n). rw last (omega (arith, bit_at_and a b n, size_cut n a b, same)))
    (λ (other : k ≡ n → ⊥). size_same n a b (omega (arith, bit_at_and a b n, same)) k (omega arith))
    (cases_eq k n)

-- so a set that takes some state away has fewer
pub size_less : (count a b : ℕ) → a < 2 ^ count → a ≢ bit_and a b → size count (bit_and a b) + 1 ≤ size count a
size_less count a b within fewer = ⊎_elim
    (λ (less : size count (bit_and a b) < size count a). omega arith)
    (λ (not : size count a ≤ size count (bit_and a b)).
    absurd (fewer (same_from_bits_below count a (bit_and a b) within (omega (arith, within, and_le_l a b)) (size_same count a b not))))
    (cases_lt (size count (bit_and a b)) (size count a))

-- the number of states that are left of the first lines, all told
abbrev pub weight : ℕ → ℕ → List Assumption → ℕ
weight count zero list = 0
weight count (suc n) list = size count (left_of count (record { 0 = n }) list).0 + weight count n list

-- the number of assumptions about lines
abbrev pub set_count : List Assumption → ℕ
set_count [] = 0
set_count (Entered pin ∷ rest) = set_count rest
set_count (Assumed line set ∷ rest) = 1 + set_count rest

-- what one more assumption leaves
pub left_of_more : (count : ℕ) (line : LineId) (list : List Assumption) (entry : Assumption)
    → left_of count line (list ++ entry ∷ []) ≡ left_by line (left_of count line list) entry
left_of_more count line list entry = fold_push (left_by line) (all_states count) list entry

-- what is left of a line has states below the count alone
pub left_within : (count : ℕ) (line : LineId) (list : List Assumption) (from : StateSet) → from.0 < 2 ^ count
    → (fold (left_by line) from list).0 < 2 ^ count
left_within count line [] from within = within
left_within count line (Entered pin ∷ list) from within = left_within count line list from within
left_within count line (Assumed other set ∷ list) from within =
    let P : Bool → Type 0 = λ b. (fold (left_by line) (if b then both_sets from set else from) list).0 < 2 ^ count in
    elim (other.0 == line.0) as P [
      | true ↦ left_within count line list (both_sets from set) (omega (arith, within, and_le_l from.0 set.0))
      | false ↦ left_within count line list from within
    ]

pub left_of_within : (count : ℕ) (line : LineId) (list : List Assumption) → (left_of count line list).0 < 2 ^ count
left_of_within count line list = left_within count line list (all_states count) (omega (arith, pow_pos count))

-- at most the count for each line
pub weight_most : (count n : ℕ) (list : List Assumption) → weight count n list ≤ count * n
weight_most count zero list = omega arith
weight_most count (suc n) list =
    let here = size_most count (left_of count (record { 0 = n }) list).0 in let rest = weight_most count n list in
    let e : count * suc n ≡ count * n + count = grind arith in omega (arith, here, rest, e)

module _ (count : ℕ) (list : List Assumption) where
  -- a pin entered takes no state away
  pub weight_entered : (n : ℕ) (pin : _) → weight count n (list ++ Entered pin ∷ []) ≡ weight count n list
  weight_entered zero pin = refl
  weight_entered (suc n) pin =
      let e = ap (λ (s : StateSet). size count s.0) (left_of_more count (record { 0 = n }) list (Entered pin)) in
      omega (arith, e, weight_entered n pin)

  module _ (lines : ℕ) (line : LineId) (set : StateSet)
      (takes : TakesSome lines line (left_of count line list) set) where
    -- a set takes no state away from the other lines
    left_of_other : (n : ℕ) → line.0 ≢ n
        → left_of count (record { 0 = n }) (list ++ Assumed line set ∷ []) ≡ left_of count (record { 0 = n }) list
    left_of_other n other =
        let e : (line.0 == n) ≡ false = ne_eqb line.0 n other in
        left_of_more count (record { 0 = n }) list (Assumed line set) ∙ (rw e refl)

    left_of_own : left_of count line (list ++ Assumed line set ∷ []) ≡ set
    left_of_own =
        let e : (line.0 == line.0) ≡ true = eq-eqb line.0 line.0 refl in
        left_of_more count line list (Assumed line set) ∙ (rw e takes.inside)

    weight_before : (n : ℕ) → n ≤ line.0 → weight count n (list ++ Assumed line set ∷ []) ≡ weight count n list
    weight_before zero below = refl
    weight_before (suc n) below =
        let e = ap (λ (s : StateSet). size count s.0) (left_of_other n (omega arith)) in
        omega (arith, e, weight_before n (omega arith))

    size_falls : size count set.0 + 1 ≤ size count (left_of count line list).0
    size_falls =
        let left = left_of count line list in
        let is : bit_and left.0 set.0 ≡ set.0 = ap (λ (s : StateSet). s.0) takes.inside in
        let fewer : left.0 ≢ bit_and left.0 set.0 = λ e. takes.fewer (e ∙ is) in
        let less = size_less count left.0 set.0 (left_of_within count line list) fewer in
        let e = ap (size count) is in omega (arith, less, e)

    -- a set takes at least one state away from its own
    pub weight_falls : (n : ℕ) → line.0 < n → weight count n (list ++ Assumed line set ∷ []) + 1 ≤ weight count n list
    weight_falls zero below = absurd (omega arith)
    weight_falls (suc n) below = ⊎_elim
        (λ (own : line.0 ≡ n).
        let before = weight_before n (omega arith) in
        let e = ap (λ (s : StateSet). size count s.0) left_of_own in
        let P : ℕ → Type 0 = λ m. size count (left_of count (record { 0 = m }) (list ++ Assumed line set ∷ [])).0
        + weight count n (list ++ Assumed line set ∷ []) + 1 ≤ size count (left_of count (record { 0 = m }) list).0 + weight count n list in
        subst P own (omega (arith, before, e, size_falls)))
        (λ (other : line.0 ≡ n → ⊥).
        let e = ap (λ (s : StateSet). size count s.0) (left_of_other n other) in
        omega (arith, e, weight_falls n (omega arith)))
        (cases_eq line.0 n)

-- so there are no more assumptions about lines than states are left before
pub sets_within_weight : (count lines : ℕ) (before list : List Assumption) → DoShrink count lines before list
    → set_count list ≤ weight count lines before
sets_within_weight count lines before [] shrink = omega arith
sets_within_weight count lines before (Entered pin ∷ list) shrink =
    omega (arith, sets_within_weight count lines (before ++ Entered pin ∷ []) list shrink.1, weight_entered count before lines pin)
sets_within_weight count lines before (Assumed line set ∷ list) shrink =
    omega (
      arith,
      sets_within_weight count lines (before ++ Assumed line set ∷ []) list shrink.1,
      weight_falls count before lines line set shrink.0 lines shrink.0.in_circuit,
    )

-- the first of the assumptions take states away
pub shrink_taken : (count lines mark : ℕ) (before list : List Assumption) → DoShrink count lines before list
    → DoShrink count lines before (take mark list)
shrink_taken count lines zero before [] shrink = tt
shrink_taken count lines zero before (entry ∷ list) shrink = tt
shrink_taken count lines (suc mark) before [] shrink = tt
shrink_taken count lines (suc mark) before (entry ∷ list) shrink =
    (shrink.0, shrink_taken count lines mark (before ++ entry ∷ []) list shrink.1)

-- one more that takes states away
pub shrink_more : (count lines : ℕ) (before list : List Assumption) (entry : Assumption) → DoShrink count lines before list
    → TakesFrom count lines (before ++ list) entry → DoShrink count lines before (list ++ entry ∷ [])
shrink_more count lines before [] entry shrink takes =
    let P : List Assumption → Type 0 = λ xs. TakesFrom count lines xs entry in
    (subst P (append-nil before) takes, tt)
shrink_more count lines before (first ∷ list) entry shrink takes =
    let P : List Assumption → Type 0 = λ xs. TakesFrom count lines xs entry in (
      shrink.0,
      shrink_more count lines (before ++ first ∷ []) list entry shrink.1
          (subst P (sym (append_assoc before (first ∷ []) list)) takes),
    )

-- the last of them takes states away
pub shrink_last : (count lines : ℕ) (before list : List Assumption) (entry : Assumption)
    → DoShrink count lines before (list ++ entry ∷ []) → TakesFrom count lines (before ++ list) entry
shrink_last count lines before [] entry shrink =
    let P : List Assumption → Type 0 = λ xs. TakesFrom count lines xs entry in subst P (sym (append-nil before)) shrink.0
shrink_last count lines before (first ∷ list) entry shrink =
    let P : List Assumption → Type 0 = λ xs. TakesFrom count lines xs entry in
    subst P (append_assoc before (first ∷ []) list) (shrink_last count lines (before ++ first ∷ []) list entry shrink.1)

-- it is about a line of the circuit
pub about_line : (count lines : ℕ) (before : List Assumption) (entry : Assumption) → TakesFrom count lines before entry
    → IsAboutLine lines entry
about_line count lines before (Entered pin) takes = tt
about_line count lines before (Assumed line set) takes = takes.in_circuit

-- pins and sets together are the whole list
pub entries_counted : (list : List Assumption) → length list ≡ length (entered_pins list) + set_count list
entries_counted [] = refl
entries_counted (Entered pin ∷ list) = grind (arith, entries_counted list)
entries_counted (Assumed line set ∷ list) = grind (arith, entries_counted list)
