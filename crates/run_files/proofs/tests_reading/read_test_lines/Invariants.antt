use Rattle.std.proofs.Common.{◌+◌, ◌≤◌, length}
use Rattle.text_pieces.proofs.ReadLines.{IsReadSoFar}
use Rattle.run_files.specs.TestsText.{tests_form}
use Rattle.run_files.proofs.tests_reading.read_test_lines.Given as goal

-- what was read so far; each line has at least one byte
abbrev pub invariant-loop-rest : goal.invariant-loop-rest
invariant-loop-rest l = record {
  read : IsReadSoFar (tests_form l.net) 1 l.text l.tests.items l.number l.rest;
  numbered : l.number + length l.rest ≤ length l.text + 1;
}

abbrev pub decreases-loop-rest : goal.decreases-loop-rest
decreases-loop-rest l = length l.rest
