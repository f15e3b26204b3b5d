-- The report while it is written with csv, row by row (this project's own).
use denote.Ref.{Bor}
use Rattle.std.specs.Prelude.{◌≡◌, ℕ, false, List, [], ◌∷◌, ◌++◌, Vec, map}
use Rattle.std.specs.declared.alloc.Global.{Global}
use Rattle.csv.specs.Writing.{default_writer, writer_setup, fields_written, has_written, writer_under, writer_pending}
use Rattle.csv.specs.declared.writer.Writer.{Writer}
use Rattle.pd_base.specs.declared.fault.Direction.{Direction}
use Rattle.pd_base.specs.declared.fault.Direction.TheVariants.{Rise, Fall}
use Rattle.runs.specs.declared.run.ListedPath.{ListedPath}
use Rattle.runs.specs.declared.run.Verdict.{Verdict}
use Rattle.text_pieces.specs.Tokens.{direction_word}
use Rattle.run_files.specs.declared.rows.PathTexts.{PathTexts}
use Rattle.run_files.specs.declared.rows.VerdictTexts.{VerdictTexts}
use Rattle.run_files.specs.PlainTexts.{IsPlain}
use Rattle.run_files.specs.ReportText.{verdict_fields}

-- the writer has its defaults, and stands at the beginning of a row
pub record IsBetweenRows (rows : Writer (Vec ℕ Global)) : Type 0 where
  pub defaults : writer_setup rows ≡ default_writer
  pub no_fields : fields_written rows ≡ 0
  pub no_bytes : has_written rows ≡ false

-- what was written so far
abbrev pub rows_text : Writer (Vec ℕ Global) → List ℕ
rows_text rows = (writer_under rows).items ++ writer_pending rows

-- the texts that the fields lend
abbrev pub texts_of : List (Bor (List ℕ)) → List (List ℕ)
texts_of fields = map (λ field. field.now) fields

-- no text of a path calls for quotes
pub record ArePlain (path : PathTexts) : Type 0 where
  pub number : IsPlain path.number.now
  pub length : IsPlain path.length.now
  pub source : IsPlain path.source.now
  pub steps : IsPlain path.steps.now

-- the texts of what a row says of a verdict, in order
abbrev pub verdict_texts : VerdictTexts → List (List ℕ)
verdict_texts verdict =
    verdict.word.now ∷ verdict.test.now ∷ verdict.robust_proof.now ∷ verdict.nonrobust_proof.now ∷ []

-- the texts of a row, in order
abbrev pub row_texts : PathTexts → List ℕ → VerdictTexts → List (List ℕ)
row_texts path direction verdict =
    path.number.now ∷ direction ∷ path.length.now ∷ path.source.now ∷ path.steps.now ∷ verdict_texts verdict

-- the texts of a path's row for a transition with this verdict
abbrev pub fault_texts : PathTexts → Direction → Verdict → List (List ℕ)
fault_texts path direction verdict =
    path.number.now ∷ direction_word direction ∷ path.length.now ∷ path.source.now ∷ path.steps.now ∷ verdict_fields verdict

-- the texts of both rows of a path, the rising transition first
abbrev pub both_rows : PathTexts → ListedPath → List (List (List ℕ))
both_rows path listed = fault_texts path Rise listed.rise ∷ fault_texts path Fall listed.fall ∷ []
