-- The greatest of some numbers, with one more.
use Rattle.std.proofs.Common.{◌≡◌, ℕ, suc, ◌+◌, ◌<◌, ◌≤◌, max, List, [], ◌∷◌, ◌++◌, length, map, take, get_or, ap, sym, ◌∙◌, arith}
use Rattle.std.proofs.lemmas.List.{take_more, map_push, get_or_default}
use Rattle.netlist.specs.Greatest.{greatest}

-- put last
greatest_push : (xs : List ℕ) (y : ℕ) → greatest (xs ++ y ∷ []) ≡ max (greatest xs) y
greatest_push [] y = omega arith
greatest_push (x ∷ xs) y = ap (max x) (greatest_push xs y) ∙ (omega arith)

-- the next of a list
pub greatest_more : (xs : List ℕ) (i : ℕ) (x : ℕ) → i < length xs → x ≡ get_or xs i x
    → greatest (take (i + 1) xs) ≡ max (greatest (take i xs)) x
greatest_more xs i x within at =
    ap greatest (take_more xs i x within ∙ ap (λ y. take i xs ++ y ∷ []) (sym at)) ∙ greatest_push (take i xs) x

-- the length of the next name
pub longest_more : (names : List (List ℕ)) (i : ℕ) → i < length names
    → greatest (map length (take (i + 1) names)) ≡ max (greatest (map length (take i names))) (length (get_or names i []))
longest_more names i within =
    ap (λ l. greatest (map length l)) (take_more names i [] within)
    ∙ ap greatest (map_push length (take i names) (get_or names i []))
    ∙ greatest_push (map length (take i names)) (length (get_or names i []))

-- numbers of which none is above a limit have no greater one
pub greatest_below : (limit : ℕ) (xs : List ℕ) → ((i : ℕ) → i < length xs → get_or xs i 0 ≤ limit) → greatest xs ≤ limit
greatest_below limit [] all = omega arith
greatest_below limit (x ∷ xs) all =
    let first = all 0 (omega arith) in
    let rest = greatest_below limit xs (λ i within. all (suc i) (omega arith)) in
    omega arith

-- the next of a list, read with a number for what is past its end
pub greatest_next : (xs : List ℕ) (i : ℕ) → i < length xs → greatest (take (i + 1) xs) ≡ max (greatest (take i xs)) (get_or xs i 0)
greatest_next xs i within = greatest_more xs i (get_or xs i 0) within (get_or_default xs i 0 (get_or xs i 0) within)
