use Rattle.std.proofs.Common.{take, Contains}
use Rattle.std.specs.List.{All}
use Rattle.scan_order.specs.Chains.{flop_lines, in_chains}
use Rattle.scan_order.specs.Inside.Growing.{chains_so_far}
use Rattle.scan_order.proofs.growing.Growing.first_missing.Given as goal

-- the flip-flops up to here stand in the chains
abbrev pub invariant-loop-flop : goal.invariant-loop-flop
invariant-loop-flop l = All (Contains (in_chains (chains_so_far l.self))) (take l.flop-index (flop_lines l.net))
