-- Proofs are numbered in the order in which they are first cited, in words that are spoken inside this crate alone (this project's own).
use Rattle.std.specs.Prelude.{◌≡◌, ℕ, ◌+◌, List, [], ◌∷◌, ◌++◌, length, slice_get, Option, Some, None}
use Rattle.runs.specs.declared.run.Proof.{Proof}
use Rattle.good_runs.specs.Faults.{IsNumber}

-- so many proofs were found; of these the cited ones, by their index, each where its number says
pub record Citations : Type 0 where
  pub found : ℕ
  pub cited : List ℕ

-- the proof of this index has no number
abbrev pub IsUncited : List ℕ → ℕ → Type 0
IsUncited cited index = (number : ℕ) → ¬ IsNumber cited number index

-- none has two numbers
abbrev pub HaveOneNumber : List ℕ → Type 0
HaveOneNumber cited = (number other index : ℕ) → IsNumber cited number index → IsNumber cited other index → number ≡ other

-- a proof is cited by the number that it has; or, where it has none yet, by the next one
pub data Cites (old new : List ℕ) (index number : ℕ) : Type 0 where
  again : IsNumber old number index → new ≡ old → Cites old new index number
  first : IsUncited old index → number ≡ length old + 1 → new ≡ old ++ index ∷ [] → Cites old new index number

-- what is kept for a proof is its number, if it has one
abbrev pub IsKeptNumber : List ℕ → ℕ → Option ℕ → Type 0
IsKeptNumber cited index None = IsUncited cited index
IsKeptNumber cited index (Some number) = IsNumber cited number index

abbrev pub AreKeptNumbers : List ℕ → List (Option ℕ) → Type 0
AreKeptNumbers cited numbers = (index : ℕ) (kept : Option ℕ) → slice_get numbers index ≡ Some kept → IsKeptNumber cited index kept

-- the cited proofs, in the order of their numbers
pub record AreCited (cited : List ℕ) (found written : List Proof) : Type 0 where
  pub one_each : length written ≡ length cited
  pub each : (number index : ℕ) (proof : Proof) → IsNumber cited number index → slice_get found index ≡ Some proof
      → IsNumber written number proof
