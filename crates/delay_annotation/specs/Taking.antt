-- Rows taken one by one: the rows so far pass, and the last of each form is kept (this project's own).
use Rattle.std.specs.Prelude.{◌≡◌, ℕ, ◌+◌, ◌<◌, List, [], ◌∷◌, ◌++◌, length, Result, Ok, Err}
use Rattle.netlist.specs.Circuit.{Circuit}
use Rattle.delay_annotation.specs.Rows.{AreTitles}
use Rattle.delay_annotation.specs.declared.setting.Columns.{Columns}
use Rattle.delay_annotation.specs.declared.setting.Setting.{Setting}
use Rattle.delay_annotation.specs.DelayFile.{AreAllRows, AreSettings, RefusesFile, RefusesNext, Row}
use Rattle.delay_annotation.specs.LastRows.{KeepsLast}
use Rattle.delay_annotation.specs.declared.fault.DelayFault.{DelayFault}
use Rattle.delay_annotation.specs.declared.last.LastRows.{LastRows}

-- the rows pass, and the last of each form behind the titles is kept
abbrev pub AreTaken : Circuit → Columns → List Row → LastRows → Type 0
AreTaken c columns [] kept = KeepsLast c kept []
AreTaken c columns (titles ∷ rows) kept =
    AreTitles columns titles × (settings : List Setting) × AreSettings c columns rows settings × KeepsLast c kept settings

-- one row more is taken, where it has this number
abbrev pub TakesRow : Circuit → Columns → ℕ → Row → LastRows → LastRows → Type 0
TakesRow c columns number row old new =
    (rows : List Row) → number ≡ length rows + 1 → AreTaken c columns rows old → AreTaken c columns (rows ++ row ∷ []) new

-- the row is refused, where it has this number
abbrev pub RefusesTaken : Circuit → Columns → ℕ → Row → LastRows → DelayFault → Type 0
RefusesTaken c columns number row old why =
    (rows : List Row) → number ≡ length rows + 1 → AreTaken c columns rows old → RefusesNext c columns rows row why

-- all rows of the file are taken, and there are some
pub record IsFileTaken (c : Circuit) (columns : Columns) (bytes : List ℕ) (kept : LastRows) : Type 0 where
  pub rows : List Row
  pub all_rows : AreAllRows bytes rows
  pub some : 0 < length rows
  pub taken : AreTaken c columns rows kept

-- the whole file is taken, or refused
abbrev pub Takes : {T : Type 0} → Circuit → Columns → List ℕ → LastRows → Result T DelayFault → Type 0
Takes c columns bytes kept (Ok done) = IsFileTaken c columns bytes kept
Takes c columns bytes kept (Err why) = RefusesFile c columns bytes why
