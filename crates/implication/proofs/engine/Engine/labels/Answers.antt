-- The labels on the board are those of the hull, where lines are told.
use Rattle.implication.proofs.Wholes.{tells_of}
use Rattle.implication.proofs.engine.Engine.labels.Goals as goal

pub returns-clause-told : goal.returns-clause-told
returns-clause-told g c =
    tells_of g.A.Algebra.algebra g.met.A.Algebra.laws c.self.invariant.0 c.args.self.now c.self.view_is c.labels.result.now
    c.labels.ensures.labels
