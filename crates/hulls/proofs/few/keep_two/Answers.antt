-- By whether there is a condition.
use Rattle.std.proofs.Common.{sym, subst}
use Rattle.hulls.specs.GateViews.{sets_seen, IsKeptAtTwo}
use Rattle.hulls.proofs.few.keep_two.Goals as goal

pub returns-in-Some : goal.returns-in-Some
returns-in-Some g c =
    subst (λ condition. IsKeptAtTwo g.A.Algebra.algebra (sets_seen c.args.gate.now) condition c.keep_two_at_step.result)
    (sym c.in-Some.is) c.keep_two_at_step.ensures

pub returns-in-None : goal.returns-in-None
returns-in-None g c =
    subst (λ condition. IsKeptAtTwo g.A.Algebra.algebra (sets_seen c.args.gate.now) condition c.keep_two_freely.result)
    (sym c.in-None.is) c.keep_two_freely.ensures
