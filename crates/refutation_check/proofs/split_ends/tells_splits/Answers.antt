-- One node after another is looked at.
use Rattle.std.proofs.Common.{List, take_all, subst}
use Rattle.std.specs.List.{All}
use Rattle.std.proofs.lemmas.List.Elements.{All-more}
use Rattle.trees.specs.declared.tree.Node.{Node}
use Rattle.trees.specs.declared.tree.Node.TheVariants.{Closed}
use Rattle.refutation_check.specs.Walks.{IsToldAt}
use Rattle.refutation_check.proofs.split_ends.tells_splits.Goals as goal

pub loop-node-preserved : goal.loop-node-preserved
loop-node-preserved g c =
    All-more (IsToldAt c.args.engine.now) c.args.nodes.now c.loop-node.node-index Closed c.loop-node-test.true c.loop-node.invariant
    (c.tells_split.ensures c.if-not-tells_split.false)

pub returns : goal.returns
returns g c = λ yes.
    subst (λ (nodes : List Node). All (IsToldAt c.args.engine.now) nodes) (take_all c.loop-node.node-index c.args.nodes.now c.loop-node-test.false)
    c.loop-node.invariant
