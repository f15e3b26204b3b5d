use Rattle.std.proofs.Common.{◌↔◌, sym, subst}
use Rattle.std.specs.Prelude.{IsTrue}
use Rattle.trees.specs.declared.tree.Node.{Node}
use Rattle.implication.specs.Scopes.{standing}
use Rattle.trees.specs.Faults.{RefutesAtNode}
use Rattle.refutation_check.proofs.NodeLabels.{closes_told}
use Rattle.refutation_check.proofs.refutation.refutes_at.Goals as goal

-- A closed leaf is right exactly where the scope has a conflict.

pub returns-in-Closed-clause-right : goal.returns-in-Closed-clause-right
returns-in-Closed-clause-right g c = λ target halves at.
    let now = standing c.args.scope.now in
    let P : Node → Type 0 = λ node. IsTrue c.is_some.result ↔ RefutesAtNode g.A.Algebra.algebra now.net now.rules target halves node in
    subst P (sym c.in-Closed.is)
    (closes_told g.A.Algebra.algebra target halves now at c.conflict.result c.conflict.ensures.none c.conflict.ensures.some c.is_some.result c.is_some.ensures)
