use Rattle.std.proofs.Common.{length}
use Rattle.scan_order.proofs.ReadSoFar.{IsReadTo}
use Rattle.scan_order.proofs.reading.read_scan.Given as goal

-- what was read up to here
abbrev pub invariant-loop-rest : goal.invariant-loop-rest
invariant-loop-rest l = IsReadTo l.net l.bytes l.growing l.number l.rest

abbrev pub decreases-loop-rest : goal.decreases-loop-rest
decreases-loop-rest l = length l.rest
