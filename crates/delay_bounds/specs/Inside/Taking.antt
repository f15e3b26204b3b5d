-- Rows taken one by one: the rows so far pass, and say what stands in the log (this project's own).
use Rattle.std.specs.Prelude.{◌≡◌, ℕ, ◌+◌, List, [], ◌∷◌, ◌++◌, length}
use Rattle.pd_base.specs.Memory.{out_of_memory}
use Rattle.delay_annotation.specs.DelayFile.{Row}
use Rattle.delay_bounds.specs.LogFile.{AreLogRows, RefusesNext}
use Rattle.delay_bounds.specs.LogRows.{AreTitles}
use Rattle.delay_bounds.specs.declared.log_fault.LogFault.{LogFault}
use Rattle.delay_bounds.specs.declared.log_fault.LogFault.TheVariants as fault
use Rattle.delay_bounds.specs.declared.log_row.LogRow.{LogRow}

-- the rows pass, and those behind the titles say this
abbrev pub AreTaken : ℕ → List Row → List LogRow → Type 0
AreTaken tests [] log = log ≡ []
AreTaken tests (titles ∷ rows) log = AreTitles titles × AreLogRows tests rows log

-- one row more is taken, where it has this number
abbrev pub TakesRow : ℕ → ℕ → Row → List LogRow → List LogRow → Type 0
TakesRow tests number row old new =
    (rows : List Row) → number ≡ length rows + 1 → AreTaken tests rows old → AreTaken tests (rows ++ row ∷ []) new

-- it is not: it is refused, where it has this number, or memory ran out
pub data FailsToTake (tests number : ℕ) (row : Row) (log : List LogRow) (why : LogFault) : Type 0 where
  refused : ((rows : List Row) → number ≡ length rows + 1 → AreTaken tests rows log → RefusesNext tests rows row why)
      → FailsToTake tests number row log why
  no_memory : why ≡ fault.NoMemory out_of_memory → FailsToTake tests number row log why
