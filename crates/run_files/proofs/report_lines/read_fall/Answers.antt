-- Without the fields of a path the line tells nothing.
use Rattle.pd_base.specs.declared.fault.Direction.TheVariants.{Fall}
use Rattle.text_pieces.specs.Tokens.{comma}
use Rattle.text_pieces.specs.Cuts.{pieces}
use Rattle.run_files.specs.ReportForm.{IsNextVerdict}
use Rattle.run_files.specs.ReportReading.{fields_with, named_by, path_lent}
use Rattle.run_files.specs.ReportText.{verdict_fields}
use Rattle.run_files.proofs.ReportVerdicts.{no_parts}
use Rattle.run_files.proofs.report_lines.read_fall.Goals as goal

pub returns-in_err-fields : goal.returns-in_err-fields
returns-in_err-fields c =
    rw c.from_residual.ensures
    (no_parts (fields_with c.args.number Fall) (λ verdict. (path_lent c.args.path, verdict_fields verdict))
    (IsNextVerdict (named_by c.args.named)) (pieces comma c.args.line.now) c.in_err-fields.ensures)
