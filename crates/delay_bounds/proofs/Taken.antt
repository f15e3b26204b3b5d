-- One row more is taken.
use Rattle.std.proofs.Common.{◌≡◌, ◌≢◌, ℕ, ◌+◌, List, [], ◌∷◌, ◌++◌, length, sym, subst, arith}
use Rattle.delay_annotation.specs.DelayFile.{Row}
use Rattle.delay_bounds.specs.LogRows.{AreTitles, IsLogRow, RefusesRow}
use Rattle.delay_bounds.specs.LogFile.{AreLogRows, ArePassed, RefusesNext}
use Rattle.delay_bounds.specs.Inside.Taking.{AreTaken, FailsToTake, TakesRow}
use Rattle.delay_bounds.specs.Inside.Taking.FailsToTake.{refused}
use Rattle.delay_bounds.specs.declared.log_fault.LogFault.{LogFault}
use Rattle.delay_bounds.specs.declared.log_fault.LogFault.TheVariants as fault
use Rattle.delay_bounds.specs.declared.log_row.LogRow.{LogRow}

-- accepted rows with one more
pub accepted_more : (tests : ℕ) (rows : List Row) (row : Row) (log : List LogRow) (said : LogRow)
    → AreLogRows tests rows log → IsLogRow tests row said → AreLogRows tests (rows ++ row ∷ []) (log ++ said ∷ [])
accepted_more tests [] row [] said accepted is = (is, tt)
accepted_more tests [] row (first ∷ log) said accepted is = absurd accepted
accepted_more tests (first ∷ rows) row [] said accepted is = absurd accepted
accepted_more tests (first ∷ rows) row (own ∷ log) said accepted is =
    (accepted.0, accepted_more tests rows row log said accepted.1 is)

-- rows that are taken pass
pub taken_passed : (tests : ℕ) (rows : List Row) (log : List LogRow) → AreTaken tests rows log → ArePassed tests rows
taken_passed tests [] log taken = tt
taken_passed tests (titles ∷ rows) log (are, accepted) = (are, log, accepted)

-- the titles are taken as row 1
pub takes_titles : (tests number : ℕ) (row : Row) (log : List LogRow) → number ≡ 1 → AreTitles row → TakesRow tests number row log log
takes_titles tests number row log first are [] at taken = (are, subst (AreLogRows tests []) (sym taken) tt)
takes_titles tests number row log first are (titles ∷ rows) at taken = absurd (omega arith)

-- another row 1 is refused
pub refuses_titles : (tests number : ℕ) (row : Row) (log : List LogRow) (why : LogFault) → number ≡ 1
    → (why ≡ fault.Header) × ¬ AreTitles row → FailsToTake tests number row log why
refuses_titles tests number row log why first refuses = refused by
  where
    by : (rows : List Row) → number ≡ length rows + 1 → AreTaken tests rows log → RefusesNext tests rows row why
    by [] at taken = refuses
    by (titles ∷ rows) at taken = absurd (omega arith)

-- a later row is taken where it is accepted and kept
pub takes_said : (tests number : ℕ) (row : Row) (said : LogRow) (old new : List LogRow) → number ≢ 1
    → IsLogRow tests row said → new ≡ old ++ said ∷ [] → TakesRow tests number row old new
takes_said tests number row said old new later is more [] at taken = absurd (later at)
takes_said tests number row said old new later is more (titles ∷ rows) at (are, accepted) =
    (are, subst (AreLogRows tests (rows ++ row ∷ [])) (sym more) (accepted_more tests rows row old said accepted is))

-- and refused where it has a fault
pub refuses_row : (tests number : ℕ) (row : Row) (log : List LogRow) (why : LogFault) → number ≢ 1
    → RefusesRow tests number row why → FailsToTake tests number row log why
refuses_row tests number row log why later refuses = refused by
  where
    by : (rows : List Row) → number ≡ length rows + 1 → AreTaken tests rows log → RefusesNext tests rows row why
    by [] at taken = absurd (later at)
    by (titles ∷ rows) at taken = subst (λ n. RefusesRow tests n row why) at refuses
