-- Logs: which rows a file has, and for which first row it has none (this project's own format). The rows are the records that csv reads,
-- so blank lines are skipped and not counted.
use Rattle.std.specs.Prelude.{◌≡◌, ⊤, ℕ, ◌+◌, List, [], ◌∷◌, ◌++◌, length}
use Rattle.pd_base.specs.Memory.{out_of_memory}
use Rattle.delay_annotation.specs.DelayFile.{AreAllRows, AreFirstRows, Row}
use Rattle.delay_bounds.specs.LogRows.{AreTitles, IsLogRow, RefusesRow}
use Rattle.delay_bounds.specs.declared.log_fault.LogFault.{LogFault}
use Rattle.delay_bounds.specs.declared.log_fault.LogFault.TheVariants as fault
use Rattle.delay_bounds.specs.declared.log_row.LogRow.{LogRow}

-- each of the rows is accepted, and says what stands at its place
abbrev pub AreLogRows : ℕ → List Row → List LogRow → Type 0
AreLogRows tests [] [] = ⊤
AreLogRows tests [] (said ∷ log) = ⊥
AreLogRows tests (row ∷ rows) [] = ⊥
AreLogRows tests (row ∷ rows) (said ∷ log) = IsLogRow tests row said × AreLogRows tests rows log

-- the file is this log of so many tests: it has the titles, and accepted rows behind them
pub record IsLog (tests : ℕ) (bytes : List ℕ) (log : List LogRow) : Type 0 where
  pub titles : Row
  pub rows : List Row
  pub all_rows : AreAllRows bytes (titles ∷ rows)
  pub are_titles : AreTitles titles
  pub accepted : AreLogRows tests rows log

-- the rows pass: there are none, or the titles and accepted rows behind them
abbrev pub ArePassed : ℕ → List Row → Type 0
ArePassed tests [] = ⊤
ArePassed tests (titles ∷ rows) = AreTitles titles × (log : List LogRow) × AreLogRows tests rows log

-- why the row behind these is refused: the first row is not that of the titles; a later one has a fault, and its number is one more than
-- there are rows before it
abbrev pub RefusesNext : ℕ → List Row → Row → LogFault → Type 0
RefusesNext tests [] row why = (why ≡ fault.Header) × ¬ AreTitles row
RefusesNext tests (titles ∷ rows) row why = RefusesRow tests (length (titles ∷ rows) + 1) row why

-- Why the file is refused: it has no row; the rows before some row pass and this one is refused; or, with no claim on the file, memory ran
-- out.
pub data RefusesLog (tests : ℕ) (bytes : List ℕ) (why : LogFault) : Type 0 where
  no_row : AreAllRows bytes [] → why ≡ fault.Header → RefusesLog tests bytes why
  row_refused : (before : List Row) (row : Row) → AreFirstRows bytes (before ++ row ∷ []) → ArePassed tests before
      → RefusesNext tests before row why → RefusesLog tests bytes why
  no_memory : why ≡ fault.NoMemory out_of_memory → RefusesLog tests bytes why
