-- The states that the failure is of are those that are kept.
use Rattle.std.proofs.Common.{List, subst}
use Rattle.state_sets.specs.declared.state.State.{State}
use Rattle.pair_judging.specs.Targets.{seen_target}
use Rattle.refutation_check.specs.Blames.{IsFailure}
use Rattle.refutation_check.proofs.early.fails_below.Goals as goal

pub traces-requires-clause-failure : goal.traces-requires-clause-failure
traces-requires-clause-failure g c =
    subst (λ (states : List State).
    IsFailure g.A.Algebra.algebra c.args.net.now c.args.cone.now.links (seen_target c.args.target.now) states c.in-Some.failure)
    c.as_slice.ensures.value (c.in-Some.ensures c.args.cone.now.links)
