-- One node more is looked at.
use Rattle.std.proofs.Common.{List, get_or, take, take_all, subst}
use Rattle.std.specs.List.{All}
use Rattle.std.proofs.lemmas.List.Elements.{All-more, All-nil}
use Rattle.trees.specs.declared.tree.Node.{Node}
use Rattle.trees.specs.declared.tree.Node.TheVariants.{Closed}
use Rattle.refutation_check.specs.SplitEnds.{IsEndAt}
use Rattle.refutation_check.proofs.SplitEnds.{adds_none, adds_twice, end_still}
use Rattle.refutation_check.proofs.split_ends.push_splits.Goals as goal

pub loop-node-init : goal.loop-node-init
loop-node-init c = record {
  adds = adds_none c.args.lines c.args.ends.now.items;
  splits = All-nil (IsEndAt c.args.lines c.args.ends.now.items);
}

pub returns-in_err-push_split-clause-adds : goal.returns-in_err-push_split-clause-adds
returns-in_err-push_split-clause-adds c = adds_twice _ _ _ _ c.loop-node.invariant.adds c.push_split.ensures.adds

pub loop-node-preserved : goal.loop-node-preserved
loop-node-preserved c =
    let nodes = c.args.nodes.now in let place = c.loop-node.node-index in let ends = c.push_split.new.ends.items in
    record {
      adds = adds_twice _ _ _ _ c.loop-node.invariant.adds c.push_split.ensures.adds;
      splits = All-more (IsEndAt c.args.lines ends) nodes place Closed c.loop-node-test.true
          (λ k d front. end_still c.args.lines c.loop-node.ends.items ends c.push_split.ensures.adds (get_or (take place nodes) k d)
          (c.loop-node.invariant.splits k d front))
          c.in_ok-push_split.ensures.split;
    }

pub returns-clause-splits : goal.returns-clause-splits
returns-clause-splits c =
    subst (λ (nodes : List Node). All (IsEndAt c.args.lines c.loop-node.ends.items) nodes)
    (take_all c.loop-node.node-index c.args.nodes.now c.loop-node-test.false) c.loop-node.invariant.splits
