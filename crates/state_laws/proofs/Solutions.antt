-- A step that takes larger sets to larger ones, repeated from all states on, comes to sets that it leaves as they are: the greatest solution.
use Rattle.std.proofs.Common.{◌≡◌, ℕ, zero, suc, ◌+◌, ◌<◌, ◌≤◌, ◌^◌, ⊎_elim, sym, ap, ◌∙◌, arith}
use Rattle.std.proofs.lemmas.Bool.{cases_eq, cases_lt}
use Rattle.state_sets.specs.declared.state.State.{State}
use Rattle.state_sets.specs.declared.state.StateSet.{StateSet}
use Rattle.state_sets.specs.States.{Has, all_states}
use Rattle.state_laws.proofs.Sets.{fewer_states, all_have}

abbrev set_of : ℕ → StateSet
set_of n = record { 0 = n }

-- a set for each line
abbrev pub SetOf : Type 0
SetOf = ℕ → StateSet

-- the sets of so many lines, as numbers, in all
abbrev pub total : ℕ → SetOf → ℕ
total zero sets = 0
total (suc n) sets = (sets n).0 + total n sets

-- the sets are not greater as numbers
abbrev NotGreater : ℕ → SetOf → SetOf → Type 0
NotGreater n inner outer = (line : ℕ) → line < n → (inner line).0 ≤ (outer line).0

total_le : (n : ℕ) (inner outer : SetOf) → NotGreater n inner outer → total n inner ≤ total n outer
total_le zero inner outer lies = omega arith
total_le (suc n) inner outer lies =
    let here = lies n (omega arith) in
    let rest = total_le n inner outer (λ line within. lies line (omega (arith, within))) in omega arith

total_same : (n : ℕ) (inner outer : SetOf) → NotGreater n inner outer → total n outer ≤ total n inner
    → (line : ℕ) → line < n → (inner line).0 ≡ (outer line).0
total_same zero inner outer lies more line within = absurd (omega (arith, within))
total_same (suc n) inner outer lies more line within =
    let fewer : NotGreater n inner outer = λ l below. lies l (omega (arith, below)) in
    let here = lies n (omega arith) in
    let rest = total_le n inner outer fewer in
    ⊎_elim (λ (last : line ≡ n).
    let e : (inner n).0 ≡ (outer n).0 = omega arith in ap (λ (l : ℕ). (inner l).0) last ∙ e ∙ sym (ap (λ (l : ℕ). (outer l).0) last))
    (λ (other : line ≡ n → ⊥). total_same n inner outer fewer (omega arith) line (omega (arith, within, other)))
    (cases_eq line n)

module _ (count n : ℕ) where
  -- each state that a line has by the first sets it has by the second
  abbrev pub LiesBelow : SetOf → SetOf → Type 0
  LiesBelow inner outer = (line : ℕ) → line < n → (state : State) → Has count (inner line) state → Has count (outer line) state

  module _ (step : SetOf → SetOf) (rises : (inner outer : SetOf) → LiesBelow inner outer → LiesBelow (step inner) (step outer))
      (sets_within : (sets : SetOf) (line : ℕ) → line < n → (step sets line).0 < 2 ^ count)
      (IsGood : SetOf → Type 0) (stays : (sets : SetOf) → IsGood sets → IsGood (step sets)) where
    -- a solution that is good
    pub record IsSolved (sets : SetOf) : Type 0 where
      pub good : IsGood sets
      pub same : (line : ℕ) → line < n → step sets line ≡ sets line

    -- the sets are good, and the step makes them smaller
    record IsFalling (sets : SetOf) : Type 0 where
      pub good : IsGood sets
      pub within : (line : ℕ) → line < n → (sets line).0 < 2 ^ count
      pub falls : LiesBelow (step sets) sets

    not_greater : (sets : SetOf) → IsFalling sets → NotGreater n (step sets) sets
    not_greater sets is line within =
        fewer_states count (step sets line) (sets line) (sets_within sets line within) (is.within line within) (is.falls line within)

    falling_on : (sets : SetOf) → IsFalling sets → IsFalling (step sets)
    falling_on sets is = record {
      good = stays sets is.good;
      within = sets_within sets;
      falls = rises (step sets) sets is.falls;
    }

    solve : (fuel : ℕ) (sets : SetOf) → IsFalling sets → total n sets < fuel → (solution : SetOf) × IsSolved solution
    solve zero sets is few = absurd (omega (arith, few))
    solve (suc fuel) sets is few = ⊎_elim
        (λ (less : total n (step sets) < total n sets).
        solve fuel (step sets) (falling_on sets is) (omega (arith, less, few)))
        (λ (not : total n sets ≤ total n (step sets)). (
          sets,
          record {
            good = is.good;
            same = λ line within. ap set_of (total_same n (step sets) sets (not_greater sets is) not line within);
          },
        ))
        (cases_lt (total n (step sets)) (total n sets))

    abbrev every : SetOf
    every line = all_states count

    -- where all states everywhere are good, there is a good solution
    pub solved : IsGood every → (solution : SetOf) × IsSolved solution
    solved good =
        solve (suc (total n (step every))) (step every) (record {
          good = stays every good;
          within = sets_within every;
          falls = rises (step every) every (λ line within state has. all_have count state has.in_range);
        }) (omega arith)
