use Rattle.std.proofs.Common.{◌-◌, length}
use Rattle.delay_bounds.proofs.Gathering.{HasTaken}
use Rattle.delay_bounds.proofs.reading.csv_log.Given as goal

-- the rows so far are taken
abbrev pub invariant-rows : goal.invariant-rows
invariant-rows l = record {
  has : HasTaken l.tests l.bytes l.reader l.number l.log.items;
}

abbrev pub decreases-rows : goal.decreases-rows
decreases-rows l = length l.bytes - l.number
