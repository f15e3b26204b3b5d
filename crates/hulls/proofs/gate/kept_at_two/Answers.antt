-- What is seen at the gate is what a labelling has there.
use Rattle.std.proofs.Common.{subst}
use Rattle.hulls.specs.GateViews.{IsKeptAtTwo}
use Rattle.hulls.proofs.gate.kept_at_two.Goals as goal

pub returns : goal.returns
returns g c =
    subst (λ sets. IsKeptAtTwo g.A.Algebra.algebra sets c.args.condition c.keep_two.result) c.view_of.ensures.sets
    c.keep_two.ensures
