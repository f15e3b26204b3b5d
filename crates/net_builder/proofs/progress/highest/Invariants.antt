use Rattle.std.proofs.Common.{◌≡◌, take}
use Rattle.netlist.specs.Greatest.{greatest}
use Rattle.net_builder.specs.Progress.{levels_at}
use Rattle.net_builder.proofs.progress.highest.Given as goal

-- the greatest of the pins before this one
abbrev pub invariant-loop-line : goal.invariant-loop-line
invariant-loop-line l = l.highest ≡ greatest (levels_at l.levels (take l.line-index l.reads))
