use Rattle.implication.specs.Scopes.{standing}
use Rattle.refutation_check.proofs.Walking.{at_below}
use Rattle.refutation_check.proofs.walk.assume_half.Goals as goal

-- The set of the half is assumed, or a conflict stands.

pub returns-clause-below : goal.returns-clause-below
returns-clause-below g c = λ target halves at.
    at_below g.A.Algebra.algebra (standing c.args.scope.now) (standing c.assume.new.self) c.args.half c.half_states-states.result c.half_states-states.ensures.means
    target halves c.assume.ensures.extends c.assume.result c.requires.line at c.assume.ensures.tells.held c.assume.ensures.tells.ok c.assume.ensures.tells.err
    c.assume.ensures.tells.left_open c.assume.ensures.tells.emptied
