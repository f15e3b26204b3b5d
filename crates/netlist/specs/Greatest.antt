-- The greatest of some numbers (this project's own).
use Rattle.std.specs.Prelude.{ℕ, List, [], ◌∷◌, max}

-- the greatest, or 0 of none
abbrev pub greatest : List ℕ → ℕ
greatest [] = 0
greatest (x ∷ xs) = max x (greatest xs)
