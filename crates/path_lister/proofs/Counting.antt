-- A list that has each number below a bound is no shorter than the bound.
use Rattle.std.proofs.Common.{ℕ, ◌<◌, ◌≤◌, List, length, get_or, eqb, Contains, sym}
use Rattle.std.proofs.lemmas.Bool.{eq-eqb}
use Rattle.std.proofs.lemmas.List.Folds.{list_any_at}
use Rattle.std.proofs.lemmas.Map.Steps.{le-length_from_below}

-- a list that has each number below a bound is no shorter than the bound
pub all_numbers : (xs : List ℕ) (n : ℕ) → ((q : ℕ) → q < n → Contains xs q) → n ≤ length xs
all_numbers xs n has =
    le-length_from_below xs n
    (λ q within. let found = has q within in
    list_any_at (eqb q) xs found.0 q found.1 (eq-eqb q (get_or xs found.0 q) (sym found.2)))
