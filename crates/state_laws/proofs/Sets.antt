-- Sets of states below a count as numbers: which states they have says which number they are.
use Rattle.std.proofs.Common.{◌≡◌, ℕ, ◌<◌, ◌≤◌, ◌^◌, ⊎_elim, min, bit_and, List, length, sym, ap, ◌∙◌, subst, arith}
use Rattle.std.specs.Int.{bit_at}
use Rattle.std.proofs.lemmas.Nat.{and_le_r, pow_pos}
use Rattle.std.proofs.lemmas.List.{get_or_past}
use Rattle.std.proofs.lemmas.Nat.Bits.{bit_at_ones, bit_at-zero, bit_at-lt, bit_at_and, same_from_bits_below}
use Rattle.std.proofs.lemmas.Bool.{cases_eq, cases_lt}
use Rattle.netlist.specs.Circuit.{Circuit, line_count}
use Rattle.state_sets.specs.declared.state.State.{State}
use Rattle.state_sets.specs.declared.state.StateSet.{StateSet}
use Rattle.state_sets.specs.States.{Has, no_states, all_states}
use Rattle.state_sets.specs.Labellings.{label_at, IsLabelling}

-- the set of a number, and the state
abbrev set_of : ℕ → StateSet
set_of n = record { 0 = n }

abbrev state_of : ℕ → State
state_of n = record { 0 = n }

-- no state is in the empty set
pub none_has : (count : ℕ) (state : State) → Has count no_states state → ⊥
none_has count state has = absurd (omega (arith, has.bit, bit_at-zero state.0))

module _ (count : ℕ) where
  -- a bit of a set is in a larger one too
  bit_stays : (a b : StateSet) → ((state : State) → Has count a state → Has count b state) → (k : ℕ) → k < count
      → bit_at a.0 k ≡ min (bit_at a.0 k) (bit_at b.0 k)
  bit_stays a b inside k below = ⊎_elim
      (λ (one : bit_at a.0 k ≡ 1).
      let other = (inside (state_of k) (record { in_range = below; bit = one })).bit in omega arith)
      (λ (not : bit_at a.0 k ≡ 1 → ⊥). let i = bit_at-lt a.0 k in let j = bit_at-lt b.0 k in omega arith)
      (cases_eq (bit_at a.0 k) 1)

  -- a set that has only states of another one is not greater as a number
  pub fewer_states : (a b : StateSet) → a.0 < 2 ^ count → b.0 < 2 ^ count
      → ((state : State) → Has count a state → Has count b state) → a.0 ≤ b.0
  fewer_states a b a_within b_within inside =
      let both : bit_and a.0 b.0 < 2 ^ count = let f = and_le_r a.0 b.0 in omega arith in
      let cut : a.0 ≡ bit_and a.0 b.0 = same_from_bits_below count a.0 (bit_and a.0 b.0) a_within both
      (λ k below. bit_stays a b inside k below ∙ sym (bit_at_and a.0 b.0 k)) in
      let f = and_le_r a.0 b.0 in omega arith

  -- sets with the same states are one
  pub same_states : (a b : StateSet) → a.0 < 2 ^ count → b.0 < 2 ^ count
      → ((state : State) → Has count a state → Has count b state) → ((state : State) → Has count b state → Has count a state)
      → a ≡ b
  same_states a b a_within b_within there back =
      let f = fewer_states a b a_within b_within there in let g = fewer_states b a b_within a_within back in
      let e : a.0 ≡ b.0 = omega arith in ap set_of e

  -- a set without a state is the empty one
  pub no_state_left : (a : StateSet) → a.0 < 2 ^ count → ((state : State) → ¬ Has count a state) → a ≡ no_states
  no_state_left a within none =
      same_states a no_states within (omega arith) (λ state has. absurd (none state has))
      (λ state has. absurd (none_has count state has))

  module _ (c : Circuit) (labels : List StateSet) (is : IsLabelling count c labels) where
    -- each set of a labelling is below the count, past the last line too
    pub label_within : (line : ℕ) → (label_at labels line).0 < 2 ^ count
    label_within line = ⊎_elim
        (λ (inside : line < length labels). is.within line no_states inside)
        (λ (past : length labels ≤ line).
        let e = ap (λ (s : StateSet). s.0) (get_or_past labels line no_states past) in let f = pow_pos count in omega arith)
        (cases_lt line (length labels))

    -- a line without a state has the empty set
    pub no_state_at : (line : ℕ) → ((state : State) → ¬ Has count (label_at labels line) state) → label_at labels line ≡ no_states
    no_state_at line none = no_state_left (label_at labels line) (label_within line) none

    -- a line with a state is one of the circuit
    pub has_in_circuit : (line : ℕ) (state : State) → Has count (label_at labels line) state → line < line_count c
    has_in_circuit line state has = ⊎_elim
        (λ (inside : line < length labels). let e = is.one_each in omega arith)
        (λ (past : length labels ≤ line).
        absurd (none_has count state (subst (λ s. Has count s state) (get_or_past labels line no_states past) has)))
        (cases_lt line (length labels))

-- all states are in the set of all, which is not empty
pub all_have : (count : ℕ) (state : State) → state.0 < count → Has count (all_states count) state
all_have count state below = record { in_range = below; bit = bit_at_ones count state.0 below }
