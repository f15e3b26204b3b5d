use Rattle.std.proofs.Common.{take}
use Rattle.std.specs.List.{All}
use Rattle.refutation_check.specs.Walks.{IsToldAt}
use Rattle.refutation_check.proofs.split_ends.tells_splits.Given as goal

-- the lines that the nodes before this one split are told
abbrev pub invariant-loop-node : goal.invariant-loop-node
invariant-loop-node g l = All (IsToldAt l.engine) (take l.node-index l.nodes)
