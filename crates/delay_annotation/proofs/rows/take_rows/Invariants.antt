use Rattle.std.proofs.Common.{◌<◌}
use Rattle.delay_annotation.proofs.Gathering.{HasTaken}
use Rattle.delay_annotation.proofs.rows.take_rows.Given as goal

-- the rows so far are taken, and csv goes on
abbrev pub invariant-loop-row : goal.invariant-loop-row
invariant-loop-row l = record {
  goes_on : 0 < l.row-iterator.left;
  has : HasTaken l.net l.columns l.bytes l.row-iterator.rdr l.number l.kept;
}
