-- Sums, and the greatest of some numbers, step by step.
use Rattle.std.proofs.Common.{◌≡◌, ◌≢◌, ◌⊎◌, inl, inr, ℕ, zero, suc, ◌+◌, ◌≤◌, max, List, [], ◌∷◌, ◌++◌, map, slice_get, Some, sum_by, refl, ap, ◌∙◌, arith}
use Rattle.std.proofs.lemmas.List.Sums.{sum_by-cons}
use Rattle.netlist.specs.Greatest.{greatest}

-- a number is 0 or not
pub zero_or_not : (n : ℕ) → (n ≡ 0) ⊎ (n ≢ 0)
zero_or_not zero = inl refl
zero_or_not (suc n) = inr (λ e. omega arith)

-- a sum of sums
pub sum_by-add : {X : Type 0} (f g h : X → ℕ) (xs : List X) → ((x : X) → f x + g x ≡ h x)
    → sum_by f xs + sum_by g xs ≡ sum_by h xs
sum_by-add f g h [] same = refl
sum_by-add f g h (x ∷ xs) same =
    omega (
      arith,
      sum_by-cons f x xs,
      sum_by-cons g x xs,
      sum_by-cons h x xs,
      same x,
      sum_by-add f g h xs same,
    )

-- a part of a sum that is not 0
pub some_part : {X : Type 0} (f : X → ℕ) (xs : List X) → sum_by f xs ≢ 0
    → (place : ℕ) × (x : X) × (slice_get xs place ≡ Some x) × (f x ≢ 0)
some_part f [] some = absurd (some refl)
some_part f (x ∷ xs) some = elim (zero_or_not (f x)) [
  | inl none ↦ (let rest = some_part f xs (λ e. some (omega (arith, sum_by-cons f x xs))) in
      (suc rest.0, rest.1, rest.2, rest.3))
  | inr here ↦ (0, x, refl, here)
]

-- each part of a sum of 0 is 0
pub no_part : {X : Type 0} (f : X → ℕ) (xs : List X) (place : ℕ) (x : X) → sum_by f xs ≡ 0
    → slice_get xs place ≡ Some x → f x ≡ 0
no_part f [] place x none at = absurd cc
no_part f (y ∷ xs) zero x none at =
    let same : y ≡ x = cc in
    omega (arith, sum_by-cons f y xs, ap f same)
no_part f (y ∷ xs) (suc place) x none at = no_part f xs place x (omega (arith, sum_by-cons f y xs)) at

-- no number is above the greatest
pub below_greatest : {X : Type 0} (f : X → ℕ) (xs : List X) (place : ℕ) (x : X) → slice_get xs place ≡ Some x
    → f x ≤ greatest (map f xs)
below_greatest f [] place x at = absurd cc
below_greatest f (y ∷ xs) zero x at = let same : y ≡ x = cc in omega (arith, ap f same)
below_greatest f (y ∷ xs) (suc place) x at = omega (arith, below_greatest f xs place x at)

-- a bound on all numbers is one on the greatest
pub greatest-le : {X : Type 0} (f : X → ℕ) (xs : List X) (bound : ℕ) → ((x : X) → f x ≤ bound)
    → greatest (map f xs) ≤ bound
greatest-le f [] bound all = omega arith
greatest-le f (x ∷ xs) bound all = omega (arith, all x, greatest-le f xs bound all)

-- the greatest of one more number
pub greatest-push : (xs : List ℕ) (y : ℕ) → greatest (xs ++ y ∷ []) ≡ max (greatest xs) y
greatest-push [] y = omega arith
greatest-push (x ∷ xs) y = ap (max x) (greatest-push xs y) ∙ (omega arith)
