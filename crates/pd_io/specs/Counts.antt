-- Counts of failed calls: by them a caller sees that a failure that it was told of did occur (this project's own).
use Rattle.std.specs.Prelude.{◌≡◌, ℕ, ◌-◌, ◌^◌, ◌<◌, ◌≤◌, ◌≢◌, Result, Err, MatchResult}

-- the number at which a count stops
abbrev pub greatest_count : ℕ
greatest_count = 2 ^ 64 - 1

-- a count is greater afterwards, or it has stopped at its greatest number
abbrev pub Rose : ℕ → ℕ → Type 0
Rose old new = new < greatest_count → old < new

-- what a call that may answer this error does to the count of such failures
pub record HasCause {T E : Type 0} (old new : ℕ) (result : Result T E) (error : E) : Type 0 where
  pub never_falls : old ≤ new
  pub within : new ≤ greatest_count
  -- the error comes only where the count rose
  pub risen : result ≡ Err error → Rose old new
  -- the count rises only where the error comes
  pub only_then : MatchResult result (λ _. new ≡ old) (λ other. other ≢ error → new ≡ old)
