-- The line for the rising transition is read where its fields, its verdict and its path are.
use Rattle.std.proofs.Common.{◌≡◌, ℕ, List, Some, None, ap, ◌∙◌}
use Rattle.std.proofs.lemmas.Option.{none-some, same_Some}
use Rattle.pd_base.specs.declared.fault.Direction.TheVariants.{Rise}
use Rattle.netlist.specs.Circuit.{Circuit}
use Rattle.runs.specs.declared.run.Verdict.{Verdict}
use Rattle.runs.specs.Lawful.{Named}
use Rattle.text_pieces.specs.Reads.{Reads}
use Rattle.text_pieces.proofs.Spelled.{none_spelled, one_spelled}
use Rattle.run_files.specs.ReportForm.{line_fields, IsNextVerdict, IsTellable, ReportLine}
use Rattle.run_files.specs.ReportReading.{fields_with, measured_texts}
use Rattle.run_files.specs.ReportText.{verdict_fields}
use Rattle.run_files.specs.declared.report_paths.MeasuredPath.{MeasuredPath}

module _ (c : Circuit) (number : ℕ) (named : Named) (fields : List (List ℕ)) where
  -- what a line tells may be told
  abbrev pub IsToldRise : ReportLine → Type 0
  IsToldRise told = IsTellable c told.path told.length × IsNextVerdict named told.verdict

  -- its path with its length
  abbrev pub measured_of : ReportLine → MeasuredPath
  measured_of told = record { path = told.path; length = told.length }

  -- its fields in two parts
  abbrev pub parts_of : ReportLine → (List ℕ × List ℕ × List ℕ) × List (List ℕ)
  parts_of told = (measured_texts c (measured_of told), verdict_fields told.verdict)

  module _ (texts : List ℕ × List ℕ × List ℕ) (left : List (List ℕ))
      (head : Reads (fields_with number Rise) (λ read. Unit {0}) fields (Some (texts, left))) where
    parts_are : (told : ReportLine) → fields ≡ line_fields c number Rise told → (texts, left) ≡ parts_of told
    parts_are told same = same_Some _ _ (head.only (parts_of told) tt same)

    module _ (verdict : Verdict) (verdicts : Reads verdict_fields (IsNextVerdict named) left (Some verdict)) where
      pub no_measured : Reads (measured_texts c) (λ measured. IsTellable c measured.path measured.length) texts None
          → Reads (line_fields c number Rise) IsToldRise fields None
      no_measured paths =
          none_spelled (line_fields c number Rise) IsToldRise fields
          (λ told is same.
          none-some _ (paths.only (measured_of told) is.0
          (ap (λ (read : (List ℕ × List ℕ × List ℕ) × List (List ℕ)). read.0) (parts_are told same))))

      pub one_rise : (measured : MeasuredPath)
          → Reads (measured_texts c) (λ measured. IsTellable c measured.path measured.length) texts (Some measured)
          → Reads (line_fields c number Rise) IsToldRise fields
          (Some (record { path = measured.path; length = measured.length; verdict = verdict }))
      one_rise measured paths =
          one_spelled (line_fields c number Rise) IsToldRise fields
          (record { path = measured.path; length = measured.length; verdict = verdict }) (paths.found.0, verdicts.found.0)
          (head.found.1 ∙ (λ i. fields_with number Rise (paths.found.1 i, verdicts.found.1 i)))
          (λ told is same.
          let parts = parts_are told same in
          let path = same_Some measured (measured_of told)
          (paths.only (measured_of told) is.0
          (ap (λ (read : (List ℕ × List ℕ × List ℕ) × List (List ℕ)). read.0) parts)) in
          let also = same_Some verdict told.verdict
          (verdicts.only told.verdict is.1 (ap (λ (read : (List ℕ × List ℕ × List ℕ) × List (List ℕ)). read.1) parts)) in
          (λ i. record { path = (path i).path; length = (path i).length; verdict = also i }))
