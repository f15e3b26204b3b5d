use Rattle.std.proofs.Common.{◌+◌, length, sum}
use Rattle.net_builder.specs.Progress.{IsProgress}
use Rattle.net_builder.proofs.levels.levels_of.Given as goal

abbrev pub invariant-loop-gate : goal.invariant-loop-gate
invariant-loop-gate l =
    IsProgress l.sources (l.pins) l.progress.levels.items l.progress.waits.items l.progress.ready.items

-- the pins that wait, and the gates that are ready
abbrev pub decreases-loop-gate : goal.decreases-loop-gate
decreases-loop-gate l = sum l.progress.waits.items + length l.progress.ready.items
