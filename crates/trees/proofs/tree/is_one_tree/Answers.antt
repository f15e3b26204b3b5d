-- The walk over the nodes keeps what is left to fill, and so says at its end whether they were one whole tree.
use Rattle.std.proofs.lemmas.Bool.{false≢true}
use Rattle.std.proofs.Common.{ap, arith, ◌∙◌, add-one, ◌≡◌, ℕ, drop, sym}
use Rattle.trees.proofs.Forests.{fills, fills-step, few_more, whole_at_end, no_place}
use Rattle.trees.proofs.tree.is_one_tree.Goals as goal

pub returns-then-places-eq0 : goal.returns-then-places-eq0
returns-then-places-eq0 c =
    let nodes = c.args.nodes.now in
    let i = c.loop-node.node-index in
    let none : c.loop-node.places ≡ 0 = omega arith in
    let rest : fills 0 (drop i nodes) ≡ fills 1 nodes =
    ap (λ (places : ℕ). fills places (drop i nodes)) (sym none) ∙ c.loop-node.invariant.rest in
    (λ h. absurd (false≢true h), λ tree. absurd (no_place nodes i (omega arith) rest tree))

pub loop-node-preserved : goal.loop-node-preserved
loop-node-preserved c = record {
  rest = rw add-one (fills-step c.args.nodes.now c.loop-node.node-index c.loop-node.places _ _ (omega arith) (omega arith)
      c.places_after-places.ensures) ∙ c.loop-node.invariant.rest;
  few = few_more _ _ _ _ c.places_after-places.ensures c.loop-node.invariant.few;
}

pub returns : goal.returns
returns c =
    whole_at_end c.args.nodes.now c.loop-node.node-index c.loop-node.places (omega arith) c.loop-node.invariant.rest
