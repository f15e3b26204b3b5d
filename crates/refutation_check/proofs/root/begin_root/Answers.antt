-- What the scope has entered, and its conflict, tell where it stands.
use Rattle.implication.specs.Scopes.{standing}
use Rattle.pair_judging.specs.Targets.{seen_target}
use Rattle.refutation_check.proofs.Roots.{begun_at_root}
use Rattle.refutation_check.proofs.root.begin_root.Goals as goal

pub returns-clause-root : goal.returns-clause-root
returns-clause-root g c =
    begun_at_root g.A.Algebra.algebra (seen_target c.args.target.now) c.args.engine.now (standing c.begin_at.result)
    c.begin_at.ensures.begun c.begin_at.ensures.tells
