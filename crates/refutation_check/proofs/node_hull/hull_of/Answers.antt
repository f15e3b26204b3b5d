use Rattle.std.proofs.Common.{List, Ok, sym, subst}
use Rattle.state_sets.specs.declared.state.StateSet.{StateSet}
use Rattle.implication.specs.Scopes.{standing}
use Rattle.refutation_check.specs.NodeHulls.{IsFoundAt}
use Rattle.refutation_check.proofs.NodeLabels.{rest_at_node, empty_at_node}
use Rattle.refutation_check.proofs.node_hull.hull_of.Goals as goal

-- The scope's labels are the hull at its node, or its conflict is at a line that is emptied there.

pub returns-in-Some : goal.returns-in-Some
returns-in-Some g c = λ target halves at.
    empty_at_node g.A.Algebra.algebra target halves (standing c.args.scope.now) at c.in-Some.conflict.0 c.in-Some.ensures.some

pub returns : goal.returns
returns g c = λ target halves at.
    let now = standing c.args.scope.now in let free = c.in_default.ensures.none in let told = c.labels.ensures.told free in
    let P : List StateSet → Type 0 = λ sets. IsFoundAt g.A.Algebra.algebra now.net now.rules target halves (Ok sets) in
    subst P (sym c.in_ok-labels.ensures)
    (rest_at_node g.A.Algebra.algebra target halves now at free c.requires.all_told c.labels.result.now told.0 c.labels.ensures.one_each told.1 told.2)
