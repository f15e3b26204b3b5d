-- One fault more has its least time.
use Rattle.delay_bounds.proofs.Passes.{least_more}
use Rattle.delay_bounds.proofs.earliest.least_times.Goals as goal

pub loop-fault-preserved : goal.loop-fault-preserved
loop-fault-preserved c =
    rw c.in_ok-push.ensures.items (least_more c.args.words.now c.args.faults c.args.times.now c.loop-fault.fault c.loop-fault.bounds.items
    c.least_time.result c.loop-fault.invariant c.least_time.ensures)
