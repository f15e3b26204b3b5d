-- Elements with different numbers below a bound are no more than the bound.
use Rattle.std.proofs.Common.{◌≢◌, ℕ, ◌<◌, ◌≤◌, List, length, map, get_or, eqb, sym, subst₂, arith}
use Rattle.std.specs.List.{All, AllPairs}
use Rattle.std.proofs.lemmas.Bool.{eqb-true, ne_eqb}
use Rattle.std.proofs.lemmas.List.{length-map, get_or-map}
use Rattle.std.proofs.lemmas.List.Elements.{All-contains, All-map}
use Rattle.std.proofs.lemmas.Map.Keys.{IsDistinct-from_apart}
use Rattle.std.proofs.lemmas.Map.Steps.{length-le_from_distinct_below}
use Rattle.std.proofs.lemmas.Map.Views.{Contains-from_any}

-- what holds between the images of all elements holds between those of the mapped list
pub pairs_map : {X Y : Type 0} (R : Y → Y → Type 0) (f : X → Y) (x : X) (xs : List X) → AllPairs (λ a b. R (f a) (f b)) xs
    → AllPairs R (map f xs)
pairs_map R f x xs of_xs i j d before within =
    let inside : j < length xs = omega (arith, length-map xs f) in
    subst₂ R (sym (get_or-map f xs i x d (omega arith))) (sym (get_or-map f xs j x d inside)) (of_xs i j x before inside)

-- different numbers below a bound are no more than the bound
numbers_below : (xs : List ℕ) (n : ℕ) → AllPairs (λ a b. a ≢ b) xs → All (λ x. x < n) xs → length xs ≤ n
numbers_below xs n differ below =
    length-le_from_distinct_below xs n
    (IsDistinct-from_apart eqb xs (λ i j d before within. ne_eqb (get_or xs i d) (get_or xs j d) (differ i j d before within)))
    (λ q any. All-contains (λ x. x < n) xs q below (Contains-from_any eqb-true q xs any))

-- nor are elements that have such numbers
pub few_by_number : {X : Type 0} (number : X → ℕ) (x : X) (xs : List X) (n : ℕ)
    → AllPairs (λ a b. number a ≢ number b) xs → All (λ a. number a < n) xs → length xs ≤ n
few_by_number number x xs n differ below =
    let few = numbers_below (map number xs) n (pairs_map (λ a b. a ≢ b) number x xs differ) (All-map (λ k. k < n) number xs below) in
    omega (arith, few, length-map xs number)
