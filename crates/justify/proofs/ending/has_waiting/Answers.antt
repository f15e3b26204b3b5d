-- A leaf that waits is found where it stands, or all have been passed over.
use Rattle.std.proofs.Common.{◌≢◌, refl, subst, List}
use Rattle.std.specs.List.{All}
use Rattle.std.proofs.lemmas.Bool.{false≢true}
use Rattle.std.proofs.lemmas.List.{take_all}
use Rattle.std.proofs.lemmas.List.Elements.{All-more, All-contains}
use Rattle.trees.specs.declared.tree.Node.{Node}
use Rattle.trees.specs.declared.tree.Node.TheVariants.{Waiting}
use Rattle.justify.proofs.ending.has_waiting.Goals as goal

pub loop-node-preserved : goal.loop-node-preserved
loop-node-preserved c =
    All-more (λ (node : Node). node ≢ Waiting) c.args.nodes.now c.loop-node.node-index _ c.loop-node-test.true c.loop-node.invariant
    c.in_default.not-Waiting

pub returns : goal.returns
returns c = (
  λ yes. absurd (false≢true yes),
  λ waits.
      let P : List Node → Type 0 = λ nodes. All (λ node. node ≢ Waiting) nodes in
      absurd (All-contains (λ (node : Node). node ≢ Waiting) c.args.nodes.now Waiting
      (subst P (take_all c.loop-node.node-index c.args.nodes.now c.loop-node-test.false) c.loop-node.invariant) waits refl),
)
