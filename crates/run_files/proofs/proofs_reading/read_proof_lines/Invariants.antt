use Rattle.std.proofs.Common.{◌+◌, ◌≤◌, length}
use Rattle.text_pieces.proofs.ReadLines.{IsReadSoFar}
use Rattle.run_files.specs.ProofsReading.{spelled_form}
use Rattle.run_files.proofs.proofs_reading.read_proof_lines.Given as goal

-- what was read so far; each line has at least one byte
abbrev pub invariant-loop-rest : goal.invariant-loop-rest
invariant-loop-rest l = record {
  read : IsReadSoFar (spelled_form l.net l.version) 1 l.text l.proofs.items l.number l.rest;
  numbered : l.number + length l.rest ≤ length l.text + 1;
}

abbrev pub decreases-loop-rest : goal.decreases-loop-rest
decreases-loop-rest l = length l.rest
