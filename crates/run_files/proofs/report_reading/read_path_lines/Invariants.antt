use Rattle.std.proofs.Common.{◌+◌, ◌*◌, ◌≤◌, length}
use Rattle.text_pieces.proofs.ReadLines.{IsReadSoFar}
use Rattle.run_files.specs.ReportForm.{lines_told, report_form, report_start}
use Rattle.run_files.specs.ReportReading.{named_by}
use Rattle.run_files.proofs.ReportLines.{between}
use Rattle.run_files.proofs.report_reading.read_path_lines.Given as goal

-- what was read so far; each line has at least one byte, and names few tests and proofs
abbrev pub invariant-loop-rest : goal.invariant-loop-rest
invariant-loop-rest l = record {
  read : IsReadSoFar (report_form l.net) report_start l.text (lines_told l.paths.items) (between l.number (named_by l.named)) l.rest;
  numbered : l.number + length l.rest ≤ length l.text + 1;
  tests : l.named.tests ≤ 2 * l.number;
  proofs : l.named.proofs ≤ 4 * l.number;
}

abbrev pub decreases-loop-rest : goal.decreases-loop-rest
decreases-loop-rest l = length l.rest
