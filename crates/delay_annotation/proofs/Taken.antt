-- One row more is taken.
use Rattle.std.proofs.Common.{◌≡◌, ◌≢◌, ℕ, suc, List, [], ◌∷◌, ◌++◌, length, refl, ap, ◌∙◌, arith}
use Rattle.netlist.specs.Circuit.{Circuit}
use Rattle.delay_annotation.specs.Rows.{AreTitles, IsSetting, RefusesRow}
use Rattle.delay_annotation.specs.declared.setting.Columns.{Columns}
use Rattle.delay_annotation.specs.declared.setting.RowFault.{RowFault}
use Rattle.delay_annotation.specs.declared.setting.Setting.{Setting}
use Rattle.delay_annotation.specs.DelayFile.{ArePassed, AreSettings, Row, at_row}
use Rattle.delay_annotation.specs.LastRows.{TakesSetting}
use Rattle.delay_annotation.specs.Taking.{AreTaken, RefusesTaken, TakesRow}
use Rattle.delay_annotation.specs.declared.fault.DelayFault.{DelayFault}
use Rattle.delay_annotation.specs.declared.fault.DelayFault.TheVariants as fault
use Rattle.delay_annotation.specs.declared.last.LastRows.{LastRows}

-- accepted rows with one more
accepted_more : (c : Circuit) (columns : Columns) (rows : List Row) (row : Row) (settings : List Setting) (setting : Setting)
    → AreSettings c columns rows settings → IsSetting c columns row setting → AreSettings c columns (rows ++ row ∷ []) (settings ++ setting ∷ [])
accepted_more c columns [] row [] setting accepted is = (is, tt)
accepted_more c columns [] row (first ∷ settings) setting accepted is = absurd accepted
accepted_more c columns (first ∷ rows) row [] setting accepted is = absurd accepted
accepted_more c columns (first ∷ rows) row (own ∷ settings) setting accepted is =
    (accepted.0, accepted_more c columns rows row settings setting accepted.1 is)

-- there are as many settings as rows
as_many : (c : Circuit) (columns : Columns) (rows : List Row) (settings : List Setting) → AreSettings c columns rows settings
    → length settings ≡ length rows
as_many c columns [] [] accepted = refl
as_many c columns [] (setting ∷ settings) accepted = absurd accepted
as_many c columns (row ∷ rows) [] accepted = absurd accepted
as_many c columns (row ∷ rows) (setting ∷ settings) accepted = ap suc (as_many c columns rows settings accepted.1)

-- rows that are taken pass
pub taken_passed : (c : Circuit) (columns : Columns) (rows : List Row) (kept : LastRows) → AreTaken c columns rows kept → ArePassed c columns rows
taken_passed c columns [] kept taken = tt
taken_passed c columns (titles ∷ rows) kept (are, settings, accepted, keeps) = (are, settings, accepted)

-- the titles are taken as row 1
pub takes_titles : (c : Circuit) (columns : Columns) (number : ℕ) (row : Row) (kept : LastRows) → number ≡ 1 → AreTitles columns row
    → TakesRow c columns number row kept kept
takes_titles c columns number row kept first are [] at taken = (are, [], tt, taken)
takes_titles c columns number row kept first are (titles ∷ rows) at taken = absurd (omega arith)

-- another row 1 is refused
pub refuses_titles : (c : Circuit) (columns : Columns) (number : ℕ) (row : Row) (kept : LastRows) (why : DelayFault) → number ≡ 1
    → (why ≡ fault.Header) × ¬ AreTitles columns row → RefusesTaken c columns number row kept why
refuses_titles c columns number row kept why first refuses [] at taken = refuses
refuses_titles c columns number row kept why first refuses (titles ∷ rows) at taken = absurd (omega arith)

-- a later row is taken where it is accepted and kept
pub takes_setting : (c : Circuit) (columns : Columns) (number : ℕ) (row : Row) (setting : Setting) (old new : LastRows) → number ≢ 1
    → IsSetting c columns row setting → TakesSetting c number setting old new → TakesRow c columns number row old new
takes_setting c columns number row setting old new later is takes [] at taken = absurd (later at)
takes_setting c columns number row setting old new later is takes (titles ∷ rows) at (are, settings, accepted, keeps) = (
  are,
  settings ++ setting ∷ [],
  accepted_more c columns rows row settings setting accepted is,
  takes settings (omega (arith, as_many c columns rows settings accepted)) keeps,
)

-- and refused where it has a fault
pub refuses_fault : (c : Circuit) (columns : Columns) (number : ℕ) (row : Row) (kept : LastRows) (own : RowFault) (why : DelayFault) → number ≢ 1
    → RefusesRow c columns row own → why ≡ at_row own number → RefusesTaken c columns number row kept why
refuses_fault c columns number row kept own why later refused is [] at taken = absurd (later at)
refuses_fault c columns number row kept own why later refused is (titles ∷ rows) at taken =
    (own, refused, is ∙ ap (at_row own) at)
