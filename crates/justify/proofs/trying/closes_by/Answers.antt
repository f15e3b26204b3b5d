-- The sources up to the one at which the conflict came are kept, if they are few; the trial fails by them.
use Rattle.std.proofs.Common.{◌+◌, refl}
use Rattle.implication.specs.Scopes.{standing}
use Rattle.pair_judging.specs.Targets.{seen_target}
use Rattle.justify.proofs.Trials.{fails_by_kept}
use Rattle.justify.proofs.trying.closes_by.Goals as goal

pub returns-in-Some-clause-failed : goal.returns-in-Some-clause-failed
returns-in-Some-clause-failed g c =
    fails_by_kept g.A.Algebra.algebra (seen_target c.args.target.now) (standing c.args.scope.now) (standing c.closes_at.new.scope)
    c.args.tried.now c.args.tried.now refl (c.in-Some.place + 1) c.in-Some.ensures.ends c.of.result c.of.ensures
