-- Where a name stands among the names of the lines.
use Rattle.std.proofs.Common.{◌≡◌, inl, inr, ℕ, Bool, List, [], length, position, Some, None, Contains, sym, ap, ◌∙◌, cond, arith, not}
use Rattle.std.proofs.lemmas.Bool.{cases_lt, lt-ltb, le-ltb}
use Rattle.std.proofs.lemmas.List.{get_or_default}
use Rattle.std.proofs.lemmas.List.Sums.{prefix_len-le-length}
use Rattle.std.proofs.lemmas.Option.{none-some, same_Some}
use Rattle.std.specs.List.{position_or_len}
use Rattle.std.specs.Str.{bytes_eq}
use Rattle.net_builder.proofs.Looking.{found_at}

-- a name that is found stands among the names
pub found_in : (name : List ℕ) (names : List (List ℕ)) (i : ℕ) → position (bytes_eq name) names ≡ Some i → Contains names name
found_in name names i at =
    let found = found_at name names i at in
    (i, found.0, get_or_default names i name [] found.0 ∙ found.1)

module _ {X : Type 0} (p : X → Bool) (xs : List X) where
  -- where nothing is found, the first place is the end
  pub no_place : position p xs ≡ None → position_or_len p xs ≡ length xs
  no_place none =
      let short = prefix_len-le-length (λ x. not (p x)) xs in
      elim (cases_lt (position_or_len p xs) (length xs)) [
        | inl within ↦
            let found = ap (λ b. cond b (Some (position_or_len p xs)) None) (lt-ltb _ _ within) in
            absurd (none-some (position_or_len p xs) (sym none ∙ found))
        | inr past ↦ omega arith
      ]

  -- what is found stands at the first place
  pub first_place : (i : ℕ) → position p xs ≡ Some i → i ≡ position_or_len p xs
  first_place i at =
      elim (cases_lt (position_or_len p xs) (length xs)) [
        | inl within ↦
            let found = ap (λ b. cond b (Some (position_or_len p xs)) None) (lt-ltb _ _ within) in
            same_Some i (position_or_len p xs) (sym at ∙ found)
        | inr past ↦
            let lost = ap (λ b. cond b (Some (position_or_len p xs)) None) (le-ltb _ _ past) in
            absurd (none-some i (sym lost ∙ at))
      ]
