-- Two places in one list.
use Rattle.std.proofs.Common.{◌≡◌, List, [], ◌∷◌, ◌++◌, refl, ap}

-- where one place stands, as seen from another: there, before it, or behind it
pub data Places {A : Type 0} (xs us : List A) (a b : A) : Type 0 where
  same : xs ≡ us → a ≡ b → Places xs us a b
  before : (between : List A) → us ≡ xs ++ a ∷ between → Places xs us a b
  behind : (between : List A) → xs ≡ us ++ b ∷ between → Places xs us a b

-- one more element in front of both
places_behind : {A : Type 0} (c d : A) (xs us : List A) (a b : A) → c ≡ d → Places xs us a b
    → Places (c ∷ xs) (d ∷ us) a b
places_behind c d xs us a b head (same lists is) = same (cc) is
places_behind c d xs us a b head (before between lists) = before between (cc)
places_behind c d xs us a b head (behind between lists) = behind between (cc)

-- two places in one list are comparable
pub compared : {A : Type 0} (xs ys us vs : List A) (a b : A) → xs ++ a ∷ ys ≡ us ++ b ∷ vs → Places xs us a b
compared [] ys [] vs a b lists = same refl (cc)
compared [] ys (u ∷ us) vs a b lists = before us (let head : u ≡ a = (cc) in ap (λ c. c ∷ us) head)
compared (x ∷ xs) ys [] vs a b lists = behind xs (let head : x ≡ b = (cc) in ap (λ c. c ∷ xs) head)
compared (x ∷ xs) ys (u ∷ us) vs a b lists = places_behind x u xs us a b (cc) (compared xs ys us vs a b (cc))
