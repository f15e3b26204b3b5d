-- The images of the elements of a list, and how many different numbers there are below a bound.
use Rattle.std.proofs.Common.{◌≡◌, ◌≢◌, ℕ, ◌+◌, ◌<◌, ◌≤◌, eqb, List, [], ◌∷◌, ◌++◌, length, map, take, get_or, sym, ap, subst, ◌∙◌, arith}
use Rattle.std.specs.List.{All, AllPairs, Contains}
use Rattle.std.proofs.lemmas.Bool.{eqb-true, ne_eqb}
use Rattle.std.proofs.lemmas.List.{get_or-map, length-map, length-take-le, map_more}
use Rattle.std.proofs.lemmas.List.Elements.{All-contains, All-map, Contains-get_or}
use Rattle.std.proofs.lemmas.Map.Keys.{IsDistinct-from_apart}
use Rattle.std.proofs.lemmas.Map.Steps.{length-le_from_distinct_below}
use Rattle.std.proofs.lemmas.Map.Views.{Contains-from_any}
use Rattle.pd_base.specs.declared.ids.LineId.{LineId}

-- what a list has, its image has, and nothing else
pub image_has : {X Y : Type 0} (f : X → Y) (xs : List X) (x : X) → Contains xs x → Contains (map f xs) (f x)
image_has f xs x (k, inside, at) =
    (k, (let e = length-map xs f in omega arith), get_or-map f xs k x (f x) inside ∙ ap f at)

pub image_only : {X Y : Type 0} (f : X → Y) (xs : List X) (y : Y) (d : X) → Contains (map f xs) y → (x : X) × Contains xs x × (f x ≡ y)
image_only f xs y d (k, inside, at) =
    let within : k < length xs = (let e = length-map xs f in omega arith) in
    (get_or xs k d, Contains-get_or xs k d within, sym (get_or-map f xs k d y within) ∙ at)

-- what holds of each two of a list holds of their images
pub image_pairs : {X Y : Type 0} (R : X → X → Type 0) (S : Y → Y → Type 0) (f : X → Y) (xs : List X) (d : X)
    → ((i j : ℕ) → i < j → j < length xs → R (get_or xs i d) (get_or xs j d) → S (f (get_or xs i d)) (f (get_or xs j d)))
    → AllPairs R xs → AllPairs S (map f xs)
image_pairs R S f xs d over pairs i j e less inside =
    let within : j < length xs = (let l = length-map xs f in omega arith) in
    let first : i < length xs = omega arith in
    subst (λ y. S y (get_or (map f xs) j e)) (sym (get_or-map f xs i d e first))
    (subst (S (f (get_or xs i d))) (sym (get_or-map f xs j d e within)) (over i j less within (pairs i j d less within)))

-- the images of the elements before a place: how many there are, and one more
pub images_so_far : {X Y : Type 0} (f : X → Y) (xs : List X) (place : ℕ) (ys : List Y) → place ≤ length xs → ys ≡ map f (take place xs)
    → length ys ≡ place
images_so_far f xs place ys within is = ap length is ∙ length-map (take place xs) f ∙ length-take-le place xs within

pub image_more : {X Y : Type 0} (f : X → Y) (xs : List X) (place : ℕ) (d : X) (ys new : List Y) → place < length xs
    → ys ≡ map f (take place xs) → new ≡ ys ++ f (get_or xs place d) ∷ [] → new ≡ map f (take (place + 1) xs)
image_more f xs place d ys new inside is more =
    more ∙ ap (λ zs. zs ++ f (get_or xs place d) ∷ []) is ∙ sym (map_more f xs place d inside)

-- different numbers below a bound are no more than the bound
pub few_numbers : (xs : List ℕ) (n : ℕ) → AllPairs (λ a b. a ≢ b) xs → All (λ x. x < n) xs → length xs ≤ n
few_numbers xs n differ below =
    length-le_from_distinct_below xs n
    (IsDistinct-from_apart eqb xs (λ i j d before within. ne_eqb (get_or xs i d) (get_or xs j d) (differ i j d before within)))
    (λ q any. All-contains (λ x. x < n) xs q below (Contains-from_any eqb-true q xs any))

-- so different lines are no more than there are lines
pub few_lines : (lines : List LineId) (bound : ℕ) → AllPairs (λ a b. a.0 ≢ b.0) lines → All (λ line. line.0 < bound) lines → length lines ≤ bound
few_lines lines bound apart below =
    let number : LineId → ℕ = λ line. line.0 in
    let few = few_numbers (map number lines) bound
    (image_pairs (λ a b. a.0 ≢ b.0) (λ a b. a ≢ b) number lines (record { 0 = 0 }) (λ i j less inside apart. apart) apart)
    (All-map (λ n. n < bound) number lines below) in
    omega (arith, few, length-map lines number)
