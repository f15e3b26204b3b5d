-- The next pin's gate still waits, and is then released too.
use Rattle.std.proofs.Common.{refl}
use Rattle.net_builder.proofs.Releasing.{still_waits, released_more}
use Rattle.net_builder.proofs.progress.release.Goals as goal

pub release_one-requires-clause-waiting : goal.release_one-requires-clause-waiting
release_one-requires-clause-waiting c =
    let i = c.loop-pin.pin-index in
    let known = c.requires.in_range i _ c.loop-pin-test.true in
    still_waits c.args.readers.now c.args.waits.now c.args.ready.now.items i _ _ c.loop-pin.waits
    c.loop-pin.ready.items c.loop-pin-test.true refl c.loop-pin.invariant known (c.requires.waiting _ known)

pub loop-pin-preserved : goal.loop-pin-preserved
loop-pin-preserved c =
    released_more c.args.readers.now c.args.waits.now c.args.ready.now.items c.loop-pin.pin-index _ _ c.loop-pin.waits
    c.loop-pin.ready.items c.loop-pin-test.true refl c.loop-pin.invariant _ _ c.in_ok-release_one.ensures
