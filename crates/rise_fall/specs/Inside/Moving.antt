-- Changes that come later by different delays, one after the other: a change that would come no later than the last one that is
-- kept is swallowed together with it (this project's own).
use Rattle.std.specs.Prelude.{◌≡◌, ℤ, ◌<ℤ◌, ◌≤ℤ◌, List, [], ◌∷◌, ◌++◌, All}

-- a change at this time is put behind all that are kept, or takes the last of them out
pub data IsPut (old new : List ℤ) (time : ℤ) : Type 0 where
  behind : All (λ change. change <ℤ time) old → new ≡ old ++ time ∷ [] → IsPut old new time
  swallowed : (last : ℤ) → time ≤ℤ last → old ≡ new ++ last ∷ [] → IsPut old new time
