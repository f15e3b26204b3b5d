-- No node so far waits.
use Rattle.std.proofs.Common.{◌≢◌, take}
use Rattle.std.specs.List.{All}
use Rattle.trees.specs.declared.tree.Node.TheVariants.{Waiting}
use Rattle.justify.proofs.ending.has_waiting.Given as goal

abbrev pub invariant-loop-node : goal.invariant-loop-node
invariant-loop-node l = All (λ node. node ≢ Waiting) (take l.node-index l.nodes)
