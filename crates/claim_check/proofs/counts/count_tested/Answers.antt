-- One path more.
use Rattle.std.proofs.Common.{arith}
use Rattle.claim_check.proofs.Counting.{counted_more}
use Rattle.claim_check.proofs.counts.count_tested.Goals as goal

pub loop-listed-preserved : goal.loop-listed-preserved
loop-listed-preserved c =
    let more = counted_more c.args.paths.now c.loop-listed.listed-index c.listed-item.result c.loop-listed-test.true c.listed-item.is in
    let so_far = c.loop-listed.invariant.counted in
    let its = c.tested_in-count.ensures.tests in
    record { counted = omega arith; few = omega arith }
