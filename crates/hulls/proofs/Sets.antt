-- Sets of states that are gathered state by state, and what cuts and unions of sets have.
use Rattle.std.proofs.Common.{◌≡◌, ◌≢◌, ℕ, ◌+◌, ◌<◌, ◌≤◌, ◌^◌, ◌⊎◌, ◌↔◌, inl, inr, ⊎_elim, Bool, true, false, not, eqb, bit_and, bit_or, refl, sym, ap, ◌∙◌, subst, arith}
use Rattle.std.specs.Int.{bit_at, w8}
use Rattle.std.proofs.lemmas.Nat.{or_lt, pow_below, and_le_r}
use Rattle.std.proofs.lemmas.Nat.Bits.{bit_at-zero, bit_at-lt, bit_at_and, bit_at_or, bit_at-pow_same, bit_at-pow_other, bit_at_above, bit_at_ones, bit_at-trailing_zeros}
use Rattle.std.proofs.lemmas.Bool.{cases_eq, false≢true, cases_lt, eq-eqb, ne_eqb, eqb-true, not-false}
use Rattle.std.specs.Int.{trailing_zeros}
use Rattle.state_sets.specs.declared.state.State.{State}
use Rattle.state_sets.specs.declared.state.StateSet.{StateSet}
use Rattle.state_sets.specs.States.{Has, no_states, all_states}
use Rattle.hulls.specs.Sets.{Means, with_if}

-- the set is one of states below the count, and has exactly those below the bound of which this is true
pub record Gathers (count : ℕ) (set : StateSet) (Q : State → Type 0) (bound : ℕ) : Type 0 where
  pub within : set.0 < 2 ^ count
  pub each : (state : State) → Has count set state ↔ ((state.0 < bound) × Q state)

-- the state of a number
abbrev pub state_of : ℕ → State
state_of n = record { 0 = n }

-- no state is in the empty set
pub has_none : (count : ℕ) (state : State) → Has count no_states state → ⊥
has_none count state has = absurd (omega (arith, has.bit, bit_at-zero state.0))

module _ (count : ℕ) (a b : StateSet) (state : State) where
  -- what both sets have, the cut has
  pub has_both : (cut : StateSet) → cut.0 ≡ bit_and a.0 b.0 → Has count a state → Has count b state → Has count cut state
  has_both cut is in_a in_b = record {
    in_range = in_a.in_range;
    bit = let e = ap (λ n. bit_at n state.0) is in let f = bit_at_and a.0 b.0 state.0 in
        let x = in_a.bit in let y = in_b.bit in omega arith;
  }

  -- and the other way
  pub both_have : (cut : StateSet) → cut.0 ≡ bit_and a.0 b.0 → Has count cut state → Has count a state × Has count b state
  both_have cut is has =
      let e = ap (λ n. bit_at n state.0) is in let f = bit_at_and a.0 b.0 state.0 in
      let x = has.bit in let i = bit_at-lt a.0 state.0 in let j = bit_at-lt b.0 state.0 in
      (record { in_range = has.in_range; bit = omega arith }, record { in_range = has.in_range; bit = omega arith })

  -- what one set has, the union has
  pub has_left : (union : StateSet) → union.0 ≡ bit_or a.0 b.0 → Has count a state → Has count union state
  has_left union is in_a = record {
    in_range = in_a.in_range;
    bit = let e = ap (λ n. bit_at n state.0) is in let f = bit_at_or a.0 b.0 state.0 in
        let x = in_a.bit in let j = bit_at-lt b.0 state.0 in omega arith;
  }

  pub has_right : (union : StateSet) → union.0 ≡ bit_or a.0 b.0 → Has count b state → Has count union state
  has_right union is in_b = record {
    in_range = in_b.in_range;
    bit = let e = ap (λ n. bit_at n state.0) is in let f = bit_at_or a.0 b.0 state.0 in
        let x = in_b.bit in let j = bit_at-lt a.0 state.0 in omega arith;
  }

  -- and the other way
  pub one_has : (union : StateSet) → union.0 ≡ bit_or a.0 b.0 → Has count union state → Has count a state ⊎ Has count b state
  one_has union is has =
      let e = ap (λ n. bit_at n state.0) is in let f = bit_at_or a.0 b.0 state.0 in
      let x = has.bit in let i = bit_at-lt a.0 state.0 in let j = bit_at-lt b.0 state.0 in
      ⊎_elim (λ (here : bit_at a.0 state.0 ≡ 1). inl (record { in_range = has.in_range; bit = here }))
      (λ (not : bit_at a.0 state.0 ≡ 1 → ⊥). inr (record { in_range = has.in_range; bit = omega arith }))
      (cases_eq (bit_at a.0 state.0) 1)

-- all states are in the set of all
pub all_have : (count : ℕ) (state : State) → state.0 < count → Has count (all_states count) state
all_have count state within = record { in_range = within; bit = bit_at_ones count state.0 within }

-- what was added to the empty set
pub added_to_none : (count : ℕ) (old kept : StateSet) (Q : State → Type 0) → old ≡ no_states
    → Means count kept (λ s. Has count old s ⊎ Q s) → Means count kept Q
added_to_none count old kept Q empty means state = (
  (λ has. ⊎_elim (λ had. absurd (has_none count state (subst (λ s. Has count s state) empty had))) (λ q. q) ((means state).0 has)),
  λ q. (means state).1 (inr q),
)

-- what one set has besides another one
pub united : (count : ℕ) (first second union : StateSet) (Q : State → Type 0) → union.0 ≡ bit_or first.0 second.0
    → Means count second Q → Means count union (λ s. Has count first s ⊎ Q s)
united count first second union Q is means state = (
  (λ has. ⊎_elim (λ here. inl here) (λ there. inr ((means state).0 there)) (one_has count first second state union is has)),
  λ either. ⊎_elim (λ here. has_left count first second state union is here)
      (λ q. has_right count first second state union is ((means state).1 q)) either,
)

-- a cut with all states is as the set was
pub cut_to_all : (count : ℕ) (set cut all : StateSet) → cut.0 ≡ bit_and set.0 all.0 → all ≡ all_states count
    → (state : State) → Has count cut state ↔ Has count set state
cut_to_all count set cut all is is_all state = (
  (λ has. (both_have count set all state cut is has).0),
  λ has. has_both count set all state cut is has
      (subst (λ s. Has count s state) (sym is_all) (all_have count state has.in_range)),
)

-- a cut of a set below the count is below it
pub cut_within : (count : ℕ) (a b : StateSet) (cut : StateSet) → cut.0 ≡ bit_and a.0 b.0 → b.0 < 2 ^ count → cut.0 < 2 ^ count
cut_within count a b cut is within = let f = and_le_r a.0 b.0 in omega arith

-- a set of one state has it, and no other
pub only_has : (count : ℕ) (set : StateSet) (state : State) → set.0 ≡ 2 ^ state.0 → state.0 < count → Has count set state
only_has count set state is within =
    record { in_range = within; bit = ap (λ n. bit_at n state.0) is ∙ bit_at-pow_same state.0 }

pub only_this : (count : ℕ) (set : StateSet) (state other : State) → set.0 ≡ 2 ^ state.0 → Has count set other → other ≡ state
only_this count set state other is has =
    ⊎_elim (λ (same : other.0 ≡ state.0). ap state_of same)
    (λ (differ : other.0 ≡ state.0 → ⊥).
    absurd (let e = ap (λ n. bit_at n other.0) is in let f = bit_at-pow_other state.0 other.0 differ in
    let x = has.bit in omega arith))
    (cases_eq other.0 state.0)

pub only_within : (count : ℕ) (set : StateSet) (state : State) → set.0 ≡ 2 ^ state.0 → state.0 < count → set.0 < 2 ^ count
only_within count set state is within = let f = pow_below state.0 count within in omega arith

-- a set below the count that isn't the number 0 has a state
pub has_some : (count : ℕ) (set : StateSet) → count ≤ 8 → set.0 < 2 ^ count → set ≢ no_states → (state : State) × Has count set state
has_some count set few within some =
    let positive : 0 < set.0 = ⊎_elim (λ (zero_set : set.0 ≡ 0). absurd (some (ap (λ n. record { 0 = n }) zero_set)))
    (λ (differ : set.0 ≡ 0 → ⊥). omega arith) (cases_eq set.0 0) in
    let wide : set.0 < 2 ^ 8 = ⊎_elim (λ (less : count < 8). let f = pow_below count 8 less in omega arith)
    (λ (not : 8 ≤ count). let e : count ≡ 8 = omega arith in subst (λ n. set.0 < 2 ^ n) e within) (cases_lt count 8) in
    let found = bit_at-trailing_zeros w8 set.0 positive wide in
    let below : trailing_zeros w8 set.0 < count = ⊎_elim (λ (yes : trailing_zeros w8 set.0 < count). yes)
    (λ (not : count ≤ trailing_zeros w8 set.0). absurd (let f = bit_at_above set.0 count (trailing_zeros w8 set.0) within not in
    let x = found.1 in omega arith)) (cases_lt (trailing_zeros w8 set.0) count) in
    (state_of (trailing_zeros w8 set.0), record { in_range = below; bit = found.1 })

-- a set with a state isn't the number 0
pub some_not_none : (count : ℕ) (set : StateSet) (state : State) → Has count set state → set ≢ no_states
some_not_none count set state has none = has_none count state (subst (λ s. Has count s state) none has)

module _ (count : ℕ) (Q : State → Type 0) where
  module _ (set : StateSet) (k : ℕ) (below : k < count) (before : Gathers count set Q k) where
    -- one more state that passes
    gathers_more : (found : StateSet) → found.0 ≡ bit_or set.0 (2 ^ k) → Q (state_of k) → Gathers count found Q (k + 1)
    gathers_more found is passes = record {
      within = let f = or_lt count set.0 (2 ^ k) before.within (pow_below k count below) in omega arith;
      each = λ state. (
        (λ has. ⊎_elim
            (λ (old : Has count set state). let b = (before.each state).0 old in let h = b.0 in (omega arith, b.1))
            (λ (new : Has count (record { 0 = 2 ^ k }) state).
            let same : state ≡ state_of k = only_this count (record { 0 = 2 ^ k }) (state_of k) state refl new in
            let e : state.0 ≡ k = ap (λ (s : State). s.0) same in (omega arith, subst Q (sym same) passes))
            (one_has count set (record { 0 = 2 ^ k }) state found is has)),
        λ both. ⊎_elim
            (λ (same : state.0 ≡ k). has_right count set (record { 0 = 2 ^ k }) state found is
            (only_has count (record { 0 = 2 ^ k }) state (ap (λ n. 2 ^ n) (sym same)) (let h = below in omega arith)))
            (λ (differ : state.0 ≡ k → ⊥). has_left count set (record { 0 = 2 ^ k }) state found is
            ((before.each state).1 (let h = both.0 in omega arith, both.1)))
            (cases_eq state.0 k),
      );
    }

    -- one more state that doesn't
    gathers_skip : (Q (state_of k) → ⊥) → Gathers count set Q (k + 1)
    gathers_skip fails = record {
      within = before.within;
      each = λ state. (
        (λ has. let b = (before.each state).0 has in let h = b.0 in (omega arith, b.1)),
        λ both. ⊎_elim
            (λ (same : state.0 ≡ k). absurd (fails (subst Q (ap state_of same) both.1)))
            (λ (differ : state.0 ≡ k → ⊥). (before.each state).1 (let h = both.0 in omega arith, both.1))
            (cases_eq state.0 k),
      );
    }

    -- one more state, by its test
    pub gathers_next : (added : Bool) → (added ≡ true → Q (state_of k)) → (Q (state_of k) → added ≡ true)
        → (found : StateSet) → found ≡ with_if set (state_of k) added → Gathers count found Q (k + 1)
    gathers_next true tells told found is = gathers_more found (ap (λ (s : StateSet). s.0) is) (tells refl)
    gathers_next false tells told found is =
        subst (λ s. Gathers count s Q (k + 1)) (sym is) (gathers_skip (λ q. false≢true (told q)))

-- what a comparison of two numbers tells
pub ne_tells : (r : Bool) (m n : ℕ) → r ≡ not (eqb m n) → r ≡ true → m ≢ n
ne_tells r m n is differs same = false≢true (ap not (sym (eq-eqb m n same)) ∙ sym is ∙ differs)

pub eq_tells : (r : Bool) (m n : ℕ) → r ≡ not (eqb m n) → r ≡ false → m ≡ n
eq_tells r m n is same = eqb-true m n (not-false (eqb m n) (sym is ∙ same))

pub ne_told : (r : Bool) (m n : ℕ) → r ≡ not (eqb m n) → m ≢ n → r ≡ true
ne_told r m n is differs = is ∙ ap not (ne_eqb m n differs)
