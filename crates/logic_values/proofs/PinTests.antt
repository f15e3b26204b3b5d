-- Tests and parities over the values at a gate's pins, as a walk over the pins computes them.
use Rattle.std.proofs.Common.{◌≡◌, ℕ, ◌+◌, ◌<◌, Bool, true, false, not, cond, List, [], ◌∷◌, ◌++◌, map, take, length, get_or, Option, Some, None, unwrap_or, refl, sym, ap, ap₂, ◌∙◌, ◌&&◌, ◌||◌}
use Rattle.std.specs.Bool.{beq}
use Rattle.std.specs.List.{list_any}
use Rattle.std.proofs.lemmas.List.{take_more}
use Rattle.std.proofs.lemmas.List.Folds.{list_all-map, list_all_more, list_any_more}
use Rattle.netlist.specs.Values.{all_true, any_true, parity}
use Rattle.netlist.specs.Steadiness.{is_known_as}

-- some mapped element passes where some element does once mapped
pub list_any-map : {X Y : Type 0} (p : Y → Bool) (f : X → Y) (xs : List X) → list_any p (map f xs) ≡ list_any (λ x. p (f x)) xs
list_any-map p f [] = refl
list_any-map p f (x ∷ xs) = ap (λ rest. p (f x) || rest) (list_any-map p f xs)

module _ {X : Type 0} (f : X → Bool) (xs : List X) (place : ℕ) (d : X) (within : place < length xs) where
  -- whether the first values and the next one are all true
  pub all_true-take_more : all_true (map f (take (place + 1) xs)) ≡ (all_true (map f (take place xs)) && f (get_or xs place d))
  all_true-take_more =
      list_all-map (λ value. value) f (take (place + 1) xs) ∙ list_all_more f xs place d within
      ∙ ap (λ first. first && f (get_or xs place d)) (sym (list_all-map (λ value. value) f (take place xs)))

  -- whether some value among the first ones and the next one is true
  pub any_true-take_more : any_true (map f (take (place + 1) xs)) ≡ (any_true (map f (take place xs)) || f (get_or xs place d))
  any_true-take_more =
      list_any-map (λ value. value) f (take (place + 1) xs) ∙ list_any_more f xs place d within
      ∙ ap (λ first. first || f (get_or xs place d)) (sym (list_any-map (λ value. value) f (take place xs)))

-- one more value turns a parity
parity-push : {X : Type 0} (f : X → Bool) (xs : List X) (x : X)
    → parity (map f (xs ++ x ∷ [])) ≡ not (beq (parity (map f xs)) (f x))
parity-push f [] x = lone (f x)
  where
    lone : (value : Bool) → cond value (not false) false ≡ not (beq false value)
    lone true = refl
    lone false = refl
parity-push f (y ∷ ys) x =
    ap (λ rest. cond (f y) (not rest) rest) (parity-push f ys x) ∙ turned (f y) (parity (map f ys)) (f x)
  where
    turned : (first rest last : Bool) → cond first (not (not (beq rest last))) (not (beq rest last))
        ≡ not (beq (cond first (not rest) rest) last)
    turned true true true = refl
    turned true true false = refl
    turned true false true = refl
    turned true false false = refl
    turned false rest last = refl

-- the parity of the first values and the next one
pub parity-take_more : {X : Type 0} (f : X → Bool) (xs : List X) (place : ℕ) (d : X) → place < length xs
    → parity (map f (take (place + 1) xs)) ≡ not (beq (parity (map f (take place xs))) (f (get_or xs place d)))
parity-take_more f xs place d within =
    ap (λ first. parity (map f first)) (take_more xs place d within) ∙ parity-push f (take place xs) (get_or xs place d)

-- a value is known to be 1 where what is known, or else 0, is 1
known_one : (known : Option Bool) → unwrap_or known false ≡ is_known_as true known
known_one None = refl
known_one (Some bit) = same bit
  where
    same : (bit : Bool) → bit ≡ cond true bit (not bit)
    same bit = refl

-- the values that are known to be 1 are those that are 1 where what is not known counts as 0
pub known_ones : {X : Type 0} (f : X → Option Bool) (xs : List X)
    → map (λ value. unwrap_or value false) (map f xs) ≡ map (λ x. is_known_as true (f x)) xs
known_ones f [] = refl
known_ones f (x ∷ xs) = ap₂ (λ y ys. y ∷ ys) (known_one (f x)) (known_ones f xs)
