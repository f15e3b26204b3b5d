-- What stands behind the front of a text.
use Rattle.std.proofs.Common.{◌≡◌, ◌==◌, ℕ, List, [], ◌∷◌, ◌++◌, Option, Some, None, refl, sym, ap, ◌∙◌, inl, inr}
use Rattle.std.specs.Prelude.{option_map, MatchOption}
use Rattle.std.specs.Str.Pattern.{FindsTextPrefix, StripsPrefix}
use Rattle.std.proofs.lemmas.Bool.{cases_Bool, eq-eqb, eqb-true}
use Rattle.command_line.specs.Kinds.{without_front}
use denote.Ref.{Bor}

-- a text that has the front is the front and what stands behind it
pub front_is : (front text rest : List ℕ) → without_front front text ≡ Some rest → text ≡ front ++ rest
front_is [] text rest is = cc
front_is (byte ∷ front) [] rest is = absurd cc
front_is (byte ∷ front) (first ∷ later) rest is =
    elim (cases_Bool (first == byte)) [
      | inl same ↦
          let behind = rw same at is in
          let first_is : first ≡ byte = eqb-true first byte same in
          let later_is = front_is front later rest behind in
          cc
      | inr other ↦ let bad = rw other at is in absurd cc
    ]

-- and the other way round
pub has_front : (front rest : List ℕ) → without_front front (front ++ rest) ≡ Some rest
has_front [] rest = refl
has_front (byte ∷ front) rest = rw (eq-eqb byte byte refl) (has_front front rest)

-- what is left where the front is taken away
pub stripped : (front text : List ℕ) (result : Option (Bor (List ℕ)))
    → MatchOption result (FindsTextPrefix front text None) (λ rest. StripsPrefix (FindsTextPrefix front) text rest.now)
    → without_front front text ≡ option_map (λ rest. rest.now) result
stripped front text None lacks = none (without_front front text) refl
  where
    none : (found : Option (List ℕ)) → without_front front text ≡ found → without_front front text ≡ None
    none None is = is
    none (Some rest) is = absurd (lacks rest (front_is front text rest is))
stripped front text (Some rest) strips =
    let whole : text ≡ front ++ rest.now = strips.1.1 ∙ ap (λ (t : List ℕ). front ++ t) (sym strips.2) in
    rw whole (has_front front rest.now)
