-- What is answered of the first line, or of the lines behind it, is answered of the file.
use Rattle.run_files.proofs.ReportFiles.{lines_answer, no_heading_answer}
use Rattle.run_files.proofs.report_reading.read_report.Goals as goal

pub returns-in_default : goal.returns-in_default
returns-in_default c = no_heading_answer c.args.net.now c.args.bytes.now c.in_default.ensures

pub returns : goal.returns
returns c =
    lines_answer c.args.net.now c.args.bytes.now c.in-Some.lines.now c.in-Some.ensures.found.1 c.read_path_lines.result c.read_path_lines.ensures
