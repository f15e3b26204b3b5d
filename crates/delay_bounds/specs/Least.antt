-- The least number of some.
use Rattle.std.specs.Prelude.{ℕ, ◌≤◌, Option, Some, None}

-- this holds of the number, and of no lesser one
pub record IsLeastOf (P : ℕ → Type 0) (number : ℕ) : Type 0 where
  pub holds : P number
  pub lowest : (other : ℕ) → P other → number ≤ other

-- the least number of which this holds, or none exactly where it holds of none
abbrev pub IsLeast : (ℕ → Type 0) → Option ℕ → Type 0
IsLeast P None = (other : ℕ) → ¬ P other
IsLeast P (Some number) = IsLeastOf P number
