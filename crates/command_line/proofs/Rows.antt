-- What rows have for an argument, after values were added for it or for another.
use Rattle.std.proofs.Common.{◌≡◌, true, false, cond, List, [], ◌∷◌, ◌++◌, Option, Some, None, is_some, refl, ap, ◌∙◌, inl, inr}
use Rattle.std.specs.Prelude.{find, option_map, option_and_then, slice_get, unwrap_or}
use Rattle.std.specs.Str.{bytes_eq}
use Rattle.std.proofs.lemmas.Bool.{cases_Bool}
use Rattle.std.proofs.lemmas.Slice.Eq.{bytes_eq-Decides}
use Rattle.clap.specs.Words.{Row, Text, all_of, first_of}
use Rattle.clap.specs.Walk.{with_values, without, has_row}
use Rattle.clap.specs.declared.builder.value_parser.Reading.{Reading}
use Rattle.clap.specs.declared.parser.matches.ValueSource.{ValueSource}

abbrev pub found : Text → List Row → Option Row
found id rows = find (λ r. bytes_eq r.id id) rows

same_id : (id : Text) → bytes_eq id id ≡ true
same_id id = (bytes_eq-Decides id id).1 refl

module _ (id : Text) (how : Reading) (s : ValueSource) (values : List Text) where
  -- another argument has what it had
  pub other_row : (other : Text) (rows : List Row) → bytes_eq id other ≡ false → found other (with_values id how s values rows) ≡ found other rows
  other_row other [] differ = rw differ refl
  other_row other (row ∷ rows) differ =
      elim (cases_Bool (bytes_eq row.id id)) [
        | inl same ↦
            let is : bytes_eq row.id other ≡ false = ap (λ (t : Text). bytes_eq t other) ((bytes_eq-Decides row.id id).0 same) ∙ differ in
            rw (same, is) refl
        | inr else' ↦ rw else' (ap (λ rest. cond (bytes_eq row.id other) (Some row) rest) (other_row other rows differ))
      ]

  -- the argument has the values behind those that it had
  pub more_row : (rows : List Row) → all_of id (with_values id how s values rows) ≡ Some (unwrap_or (all_of id rows) [] ++ values)
  more_row [] = rw (same_id id) refl
  more_row (row ∷ rows) =
      elim (cases_Bool (bytes_eq row.id id)) [
        | inl same ↦ rw (same, same) refl
        | inr else' ↦ rw (else', else') (more_row rows)
      ]

-- what is not there is not taken out
pub none_out : (id : Text) (rows : List Row) → all_of id rows ≡ None → without id rows ≡ rows
none_out id [] none = refl
none_out id (row ∷ rows) none =
    elim (cases_Bool (bytes_eq row.id id)) [
      | inl same ↦ let bad = rw same at none in absurd cc
      | inr else' ↦ let rest = rw else' at none in rw else' (ap (λ more. row ∷ more) (none_out id rows rest))
    ]

pub has_row-is : (id : Text) (rows : List Row) → has_row id rows ≡ is_some (all_of id rows)
has_row-is id [] = refl
has_row-is id (row ∷ rows) =
    elim (cases_Bool (bytes_eq row.id id)) [
      | inl same ↦ rw same refl
      | inr else' ↦ rw else' (has_row-is id rows)
    ]

pub first_of-is : (id : Text) (rows : List Row) → first_of id rows ≡ option_and_then (λ vs. slice_get vs 0) (all_of id rows)
first_of-is id rows = go (found id rows)
  where
    go : (row : Option Row) → option_and_then (λ r. slice_get r.values 0) row ≡ option_and_then (λ vs. slice_get vs 0) (option_map (λ r. r.values) row)
    go None = refl
    go (Some row) = refl
