use Rattle.std.proofs.Common.{All, take}
use Rattle.commands.specs.Inside.ScanJudging.{ShiftsInAll}
use Rattle.commands.proofs.scan.launched.first_unlaunched.Given as goal

-- the pairs of the tests before this one are launched
abbrev pub invariant-loop-place : goal.invariant-loop-place
invariant-loop-place l = All (ShiftsInAll l.chains) (take l.place l.tests)
