-- By the sources that closed the trial of a node above, in the same states, that of this node has failed; the conflict is counted once.
use Rattle.std.proofs.Common.{ap}
use Rattle.implication.specs.Moves.{risen}
use Rattle.implication.specs.Scopes.{standing}
use Rattle.implication.specs.Standing.{Standing}
use Rattle.pair_judging.specs.Targets.{seen_target}
use Rattle.justify.proofs.Orders.{at_least}
use Rattle.justify.proofs.Trials.{fails_once_counted}
use Rattle.justify.proofs.trial.closes_as_above.Goals as goal

pub returns-clause-failed : goal.returns-clause-failed
returns-clause-failed g c = λ yes.
    let first = standing c.args.scope.now in let here = c.label.ensures.told c.requires.node.free in
    fails_once_counted g.A.Algebra.algebra (seen_target c.args.target.now) first c.requires.suits.of_rules c.requires.node here.0 here.1
    c.args.tried.now c.requires.tried c.requires.closes (standing c.count_conflict.new.scope)
    (at_least (risen first.closings) _ (ap (λ (s : Standing). s.closings) c.count_conflict.ensures.counted))
