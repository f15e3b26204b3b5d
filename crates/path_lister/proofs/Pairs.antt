-- Relations that hold between each element of a list and each later one, along lists joined.
use Rattle.std.proofs.Common.{◌≡◌, ⊎_elim, ◌+◌, ◌-◌, ◌<◌, ◌≤◌, List, ◌++◌, length, get_or, refl, sym, subst₂, arith, length-append}
use Rattle.std.specs.List.{All, AllPairs}
use Rattle.std.proofs.lemmas.Bool.{cases_lt}
use Rattle.std.proofs.lemmas.List.{get_or_append_left, get_or-append_right}

-- what holds between all elements of each of two lists, and of those of the first with those of the second, holds in both
-- together
pub pairs_append : {X : Type 0} (R : X → X → Type 0) (xs ys : List X) → AllPairs R xs → AllPairs R ys
    → All (λ x. All (R x) ys) xs → AllPairs R (xs ++ ys)
pairs_append R xs ys of_xs of_ys across i j d before within =
    ⊎_elim both_left (λ right. ⊎_elim (across_at right) (both_right right) (cases_lt i (length xs))) (cases_lt j (length xs))
  where
    long : length (xs ++ ys) ≡ length xs + length ys
    long = length-append xs ys

    both_left : j < length xs → R (get_or (xs ++ ys) i d) (get_or (xs ++ ys) j d)
    both_left left =
        subst₂ R (sym (get_or_append_left xs ys d i (omega arith))) (sym (get_or_append_left xs ys d j left))
        (of_xs i j d before left)

    across_at : length xs ≤ j → i < length xs → R (get_or (xs ++ ys) i d) (get_or (xs ++ ys) j d)
    across_at right left =
        subst₂ R (sym (get_or_append_left xs ys d i left)) (sym (get_or-append_right xs ys (length xs) j d refl right))
        (across i d left (j - length xs) d (omega (arith, long)))

    both_right : length xs ≤ j → length xs ≤ i → R (get_or (xs ++ ys) i d) (get_or (xs ++ ys) j d)
    both_right right later =
        subst₂ R (sym (get_or-append_right xs ys (length xs) i d refl later))
        (sym (get_or-append_right xs ys (length xs) j d refl right))
        (of_ys (i - length xs) (j - length xs) d (omega arith) (omega (arith, long)))
