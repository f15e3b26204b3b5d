-- Where no conflict stands, each line has some state.
use Rattle.std.proofs.Common.{refl}
use Rattle.implication.proofs.Wholes.{open_of, emptied_of}
use Rattle.implication.proofs.engine.Engine.conflict.Goals as goal

pub returns-clause-open : goal.returns-clause-open
returns-clause-open g c =
    open_of g.A.Algebra.algebra g.met.A.Algebra.laws c.self.invariant.0 c.args.self.now c.self.view_is c.self.inside.conflict refl

pub returns-clause-emptied : goal.returns-clause-emptied
returns-clause-emptied g c =
    emptied_of g.A.Algebra.algebra g.met.A.Algebra.laws c.self.invariant.0 c.args.self.now c.self.view_is c.self.inside.conflict refl
