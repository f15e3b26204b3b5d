-- The outcomes of rows on places side by side are written one by one.
use Rattle.std.proofs.Common.{◌≡◌, ◌≢◌, ⊎_elim, ℕ, ◌+◌, ◌<◌, ◌≤◌, List, length, set, Some, refl, sym, ap, subst, ◌∙◌, arith, get_or-set_same, get_or-set_other}
use Rattle.std.specs.Prelude.{slice_get}
use Rattle.std.proofs.lemmas.Bool.{cases_eq, cases_lt}
use Rattle.std.proofs.lemmas.List.{length-set}
use Rattle.prefix_sensitize.specs.declared.outcome.RowOutcome.{RowOutcome}
use Rattle.prefix_sensitize.specs.declared.outcome.RowOutcome.TheVariants.{Unsearched}
use Rattle.prefix_sensitize.specs.Outcomes.{outcome_at}
use Rattle.prefix_sensitize.specs.Settling.{HaveOutcome}
use Rattle.prefix_sensitize.proofs.OrderPlaces.{same_item}

-- none is written
pub settled_none : (order : List ℕ) (place : ℕ) (outcome : RowOutcome) (old : List RowOutcome) → HaveOutcome order place place outcome old old
settled_none order place outcome old = record {
  one_each = refl;
  inside = λ at row placed behind before. absurd (omega arith);
  outside = λ row apart. refl;
}

module _ (order : List ℕ) (place at row : ℕ) (outcome : RowOutcome) (old new : List RowOutcome) (so_far : HaveOutcome order place at outcome old new)
    (behind : place ≤ at) (here : slice_get order at ≡ Some row) (within : row < length new) where
  written : outcome_at (set new row outcome) row ≡ outcome
  written = get_or-set_same new row outcome Unsearched within

  elsewhere : (other : ℕ) → other ≢ row → outcome_at (set new row outcome) other ≡ outcome_at new other
  elsewhere other apart = get_or-set_other new row other outcome Unsearched apart

  inside_then : (place' other : ℕ) → slice_get order place' ≡ Some other → place ≤ place' → place' < at + 1
      → outcome_at (set new row outcome) other ≡ outcome
  inside_then place' other placed low less =
      ⊎_elim (λ (same : other ≡ row). ap (outcome_at (set new row outcome)) same ∙ written)
      (λ (apart : other ≡ row → ⊥).
      ⊎_elim (λ (before : place' < at). elsewhere other apart ∙ so_far.inside place' other placed low before)
      (λ (last : at ≤ place').
      let equal : place' ≡ at = omega arith in
      let P : ℕ → Type 0 = λ n. slice_get order n ≡ Some other in
      absurd (apart (same_item order at other row (subst P equal placed) here)))
      (cases_lt place' at))
      (cases_eq other row)

  outside_then : (other : ℕ) → ((place' : ℕ) → slice_get order place' ≡ Some other → place ≤ place' → place' < at + 1 → ⊥)
      → outcome_at (set new row outcome) other ≡ outcome_at old other
  outside_then other apart =
      elsewhere other
      (λ same.
      let P : ℕ → Type 0 = λ n. slice_get order at ≡ Some n in
      let less : at < at + 1 = omega arith in
      apart at (subst P (sym same) here) behind less)
      ∙ so_far.outside other
      (λ place' placed low less. apart place' placed low (let further : place' < at + 1 = omega (arith, less) in further))

  -- one more
  pub settled_more : HaveOutcome order place (at + 1) outcome old (set new row outcome)
  settled_more = record {
    one_each = length-set new row outcome ∙ so_far.one_each;
    inside = inside_then;
    outside = outside_then;
  }
