use Rattle.std.proofs.Common.{◌≡◌, ◌+◌, ◌≤◌, drop}
use Rattle.trees.proofs.Forests.{fills}
use Rattle.trees.proofs.tree.is_one_tree.Given as goal

-- the nodes that are left fill the open places exactly where all nodes are one tree; few places are open
abbrev pub invariant-loop-node : goal.invariant-loop-node
invariant-loop-node l = record {
  rest : fills l.places (drop l.node-index l.nodes) ≡ fills 1 l.nodes;
  few : l.places ≤ l.node-index + 1;
}
