use Rattle.std.proofs.Common.{take}
use Rattle.net_builder.specs.Progress.{AreReleased}
use Rattle.net_builder.proofs.progress.release.Given as goal

-- the pins before this one are released
abbrev pub invariant-loop-pin : goal.invariant-loop-pin
invariant-loop-pin l =
    AreReleased (take l.pin-index l.readers) l.initial.waits l.initial.ready.items l.waits l.ready.items
