use Rattle.path_laws.specs.Growth.{IsBegun}
use Rattle.path_lister.proofs.lists.NodeLists.start.Given as goal

-- the nodes from this one on have had their turn
abbrev pub invariant-loop-node : goal.invariant-loop-node
invariant-loop-node l = IsBegun l.graph l.lists l.node
