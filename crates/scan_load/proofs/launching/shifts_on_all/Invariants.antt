use Rattle.std.proofs.Common.{take}
use Rattle.std.specs.List.{All}
use Rattle.scan_load.specs.Shifting.{ShiftsOn}
use Rattle.scan_load.proofs.launching.shifts_on_all.Given as goal

-- it is launched in the chains before this one
abbrev pub invariant-loop-chain : goal.invariant-loop-chain
invariant-loop-chain l = All (λ chain. ShiftsOn chain l.pair) (take l.chain-index l.chains)
