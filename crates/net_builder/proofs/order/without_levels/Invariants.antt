use Rattle.std.proofs.Common.{◌≡◌, take}
use Rattle.net_builder.specs.Ranked.{gates_in}
use Rattle.net_builder.proofs.order.without_levels.Given as goal

-- the gates before this one are listed
abbrev pub invariant-loop-gate : goal.invariant-loop-gate
invariant-loop-gate l = l.order.items ≡ gates_in (take l.gate-index l.ranked)
