-- Tables of numbers that were computed: each place has what a function makes of its number, or of its row and column.
use Rattle.std.proofs.Common.{◌≡◌, ℕ, zero, suc, ◌+◌, ◌*◌, ◌/◌, ◌%◌, ◌<◌, ◌==◌, Bool, true, ◌&&◌, List, [], ◌∷◌, length, get_or, ap, ap₂, ◌∙◌, arith}
use Rattle.std.proofs.lemmas.Bool.{eqb-true, and_parts}
use Rattle.std.proofs.lemmas.Nat.{div-mul-add, mod-mul-add}

-- whether each number of a list, from this place on, is what the function makes of its place
abbrev pub all_are : (ℕ → ℕ) → ℕ → List ℕ → Bool
all_are f at [] = true
all_are f at (n ∷ ns) = (n == f at) && all_are f (suc at) ns

pub is_at : (f : ℕ → ℕ) (at : ℕ) (ns : List ℕ) → all_are f at ns ≡ true → (i : ℕ) → i < length ns → get_or ns i 0 ≡ f (at + i)
is_at f at [] all i within = absurd (omega arith)
is_at f at (n ∷ ns) all zero within =
    eqb-true n (f at) (and_parts (n == f at) (all_are f (suc at) ns) all).0 ∙ ap f (omega arith)
is_at f at (n ∷ ns) all (suc i) within =
    is_at f (suc at) ns (and_parts (n == f at) (all_are f (suc at) ns) all).1 i (omega arith) ∙ ap f (omega arith)

-- a function of row and column, in rows of so many places
abbrev pub by_rows : ℕ → (ℕ → ℕ → ℕ) → ℕ → ℕ
by_rows width f at = f (at / width) (at % width)

-- a table of so many columns
pub in_rows : (width : ℕ) (f : ℕ → ℕ → ℕ) (ns : List ℕ) → all_are (by_rows width f) 0 ns ≡ true
    → (row column : ℕ) → row * width + column < length ns → column < width → get_or ns (row * width + column) 0 ≡ f row column
in_rows width f ns all row column inside in_columns =
    let here : 0 + (row * width + column) ≡ row * width + column = omega arith in
    is_at (by_rows width f) 0 ns all (row * width + column) inside
    ∙ ap₂ f (ap (λ n. n / width) here ∙ div-mul-add row width column in_columns)
    (ap (λ n. n % width) here ∙ mod-mul-add row width column in_columns)
