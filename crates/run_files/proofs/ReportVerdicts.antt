-- What no reading of the parts of a text finds, no reading of the whole does.
use Rattle.std.proofs.Common.{◌≡◌, List, ℕ, Option, Some, None, IfSome, codes, decimal}
use Rattle.std.proofs.lemmas.Option.{none-some}
use Rattle.runs.specs.declared.run.Verdict.{Verdict}
use Rattle.runs.specs.declared.run.Verdict.TheVariants.{Robust, Nonrobust, Untestable, Aborted}
use Rattle.text_pieces.specs.Reads.{Reads}
use Rattle.text_pieces.proofs.Spelled.{none_spelled}
use Rattle.run_files.specs.ReportReading.{four_fields}
use Rattle.run_files.specs.ReportText.{nothing, verdict_fields}

-- where a text has no parts it spells nothing that has parts
pub no_parts : {A B T : Type 0} (spelled : B → T) (parts : A → B) (Lawful : A → Type 0) (text : T) → Reads spelled (λ part. Unit {0}) text None
    → Reads (λ item. spelled (parts item)) Lawful text None
no_parts spelled parts Lawful text reads =
    none_spelled (λ item. spelled (parts item)) Lawful text (λ item lawful same. none-some (parts item) (reads.only (parts item) tt same))

-- what is read is the same under two names of what is lawful
module _ {A T : Type 0} (spelled : A → T) (Lawful Also : A → Type 0) (text : T) (to : (item : A) → Lawful item → Also item)
    (back : (item : A) → Also item → Lawful item) where
  found_also : (read : Option A) → IfSome read (λ item. Lawful item × (text ≡ spelled item)) → IfSome read (λ item. Also item × (text ≡ spelled item))
  found_also None h = tt
  found_also (Some item) h = (to item h.0, h.1)

  pub same_lawful : (read : Option A) → Reads spelled Lawful text read → Reads spelled Also text read
  same_lawful read reads = record {
    found = found_also read reads.found;
    only = λ item also is. reads.only item (back item also) is;
  }

-- fields that are not four are those of no verdict
pub not_four : (Lawful : Verdict → Type 0) (fields : List (List ℕ)) → Reads four_fields (λ read. Unit {0}) fields None
    → Reads verdict_fields Lawful fields None
not_four Lawful fields reads = none_spelled verdict_fields Lawful fields (λ verdict lawful. none verdict)
  where
    none : (verdict : Verdict) → ¬ (fields ≡ verdict_fields verdict)
    none (Robust test) same = none-some _ (reads.only (codes "robust", decimal test, nothing, nothing) tt same)
    none (Nonrobust test proof) same = none-some _ (reads.only (codes "nonrobust", decimal test, decimal proof, nothing) tt same)
    none (Untestable proof) same = none-some _ (reads.only (codes "untestable", nothing, nothing, decimal proof) tt same)
    none (Aborted robust nonrobust) same =
        none-some _ (reads.only (codes "aborted", nothing, decimal robust, decimal nonrobust) tt same)
