-- Without four fields there is no verdict.
use Rattle.text_pieces.specs.Tokens.{comma}
use Rattle.text_pieces.specs.Cuts.{pieces_left}
use Rattle.run_files.specs.ReportForm.{IsNextVerdict}
use Rattle.run_files.specs.ReportReading.{named_by}
use Rattle.run_files.proofs.ReportVerdicts.{not_four}
use Rattle.run_files.proofs.report_verdicts.read_verdict.Goals as goal

pub returns-in_err-fields : goal.returns-in_err-fields
returns-in_err-fields c =
    rw c.from_residual.ensures
    (not_four (IsNextVerdict (named_by c.args.named)) (pieces_left comma c.args.left) c.in_err-fields.ensures)
