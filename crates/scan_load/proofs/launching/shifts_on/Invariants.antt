use Rattle.std.proofs.Common.{take}
use Rattle.scan_load.specs.Shifting.{ShiftsOn}
use Rattle.scan_load.proofs.launching.shifts_on.Given as goal

-- the bits have moved on up to here
abbrev pub invariant-loop-at : goal.invariant-loop-at
invariant-loop-at l = ShiftsOn (take l.at l.chain) l.pair
