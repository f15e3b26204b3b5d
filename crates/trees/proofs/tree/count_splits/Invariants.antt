use Rattle.std.proofs.Common.{◌≡◌, ◌≤◌, take}
use Rattle.trees.specs.Trees.{split_count}
use Rattle.trees.proofs.tree.count_splits.Given as goal

-- the splits among the nodes so far are counted, and are no more than these nodes
abbrev pub invariant-loop-node : goal.invariant-loop-node
invariant-loop-node l = record {
  counted : l.count ≡ split_count (take l.node-index l.nodes);
  few : l.count ≤ l.node-index;
}
