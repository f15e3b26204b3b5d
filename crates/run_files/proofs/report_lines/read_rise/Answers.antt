-- A line without the fields of a path, or whose fields are those of no path, tells nothing; with its path and its verdict it tells both.
use Rattle.pd_base.specs.declared.fault.Direction.TheVariants.{Rise}
use Rattle.text_pieces.specs.Tokens.{comma}
use Rattle.text_pieces.specs.Cuts.{pieces, pieces_left}
use Rattle.run_files.specs.ReportReading.{fields_with, named_by, path_lent}
use Rattle.run_files.proofs.ReportRises.{no_measured, one_rise, parts_of, IsToldRise}
use Rattle.run_files.proofs.ReportVerdicts.{no_parts}
use Rattle.run_files.proofs.report_lines.read_rise.Goals as goal

pub returns-in_default-clause-reads : goal.returns-in_default-clause-reads
returns-in_default-clause-reads c =
    let fields = pieces comma c.args.line.now in
    no_parts (fields_with c.args.number Rise) (parts_of c.args.net.now c.args.number (named_by c.args.named) fields)
    (IsToldRise c.args.net.now c.args.number (named_by c.args.named) fields) fields c.in_default.ensures

pub returns-in_default-2-clause-reads : goal.returns-in_default-2-clause-reads
returns-in_default-2-clause-reads c =
    no_measured c.args.net.now c.args.number (named_by c.args.named) (pieces comma c.args.line.now) (path_lent c.in-Some.fields)
    (pieces_left comma c.in-Some.left) c.in-Some.ensures c.in-Some-read_verdict.verdict c.in-Some-read_verdict.ensures
    (rw c.in_default-2.is at c.in_ok-measured.ensures)

pub returns-clause-reads : goal.returns-clause-reads
returns-clause-reads c =
    one_rise c.args.net.now c.args.number (named_by c.args.named) (pieces comma c.args.line.now) (path_lent c.in-Some.fields)
    (pieces_left comma c.in-Some.left) c.in-Some.ensures c.in-Some-read_verdict.verdict c.in-Some-read_verdict.ensures
    c.in-Some-2.measured (rw c.in-Some-2.is at c.in_ok-measured.ensures)
