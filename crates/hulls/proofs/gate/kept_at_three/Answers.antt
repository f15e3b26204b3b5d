-- What is seen at the gate is what a labelling has there.
use Rattle.std.proofs.Common.{subst}
use Rattle.hulls.specs.GateViews.{IsKeptAtThree}
use Rattle.hulls.proofs.gate.kept_at_three.Goals as goal

pub returns : goal.returns
returns g c =
    subst (λ sets. IsKeptAtThree g.A.Algebra.algebra sets c.keep_three_freely.result) c.view_of.ensures.sets
    c.keep_three_freely.ensures
