-- Node by node.
use Rattle.std.proofs.Common.{ℕ, List, [], ◌∷◌, ◌++◌, Option, get_or, take, sym, subst}
use Rattle.std.proofs.lemmas.List.{take_more, take_all}
use Rattle.claim_check.specs.Prefixes.{IsLeastMark}
use Rattle.claim_check.proofs.Marking.{mark_more, no_mark}
use Rattle.claim_check.proofs.applying.least_mark.Goals as goal

pub loop-node-init : goal.loop-node-init
loop-node-init c = no_mark c.args.marks.now

pub loop-node-preserved : goal.loop-node-preserved
loop-node-preserved c =
    let marks = c.args.marks.now in
    let nodes = c.args.nodes.now in
    let at = c.loop-node.node-index in
    let more = take_more nodes at 0 c.loop-node-test.true in
    let P : List ℕ → Type 0 = λ these. IsLeastMark marks these c.lesser-least.result in
    let Q : Option ℕ → Type 0 = λ least. IsLeastMark marks (take at nodes ++ get_or nodes at 0 ∷ []) least in
    subst P (sym more)
    (subst Q (sym c.lesser-least.ensures) (mark_more marks (take at nodes) (get_or nodes at 0) c.loop-node.least c.loop-node.invariant))

pub returns : goal.returns
returns c =
    let nodes = c.args.nodes.now in
    let P : List ℕ → Type 0 = λ these. IsLeastMark c.args.marks.now these c.loop-node.least in
    subst P (take_all c.loop-node.node-index nodes c.loop-node-test.false) c.loop-node.invariant
