-- The sources of the cone are lines, and there are a label, a liked set and a state for each line.
use Rattle.std.proofs.Common.{ap, ◌∙◌, length, arith}
use Rattle.std.proofs.lemmas.Grind.{common_steps}
use Rattle.implication.specs.Scopes.{standing}
use Rattle.justify.proofs.TriedSources.{read_within}
use Rattle.justify.proofs.searching.take_liked.Goals as goal

pub take_preferred-requires-clause-labels : goal.take_preferred-requires-clause-labels
take_preferred-requires-clause-labels g c =
    read_within g.A.Algebra.algebra (standing c.args.scope.now).net (standing c.args.scope.now).rules c.args.target.now.path.now
    c.args.desk.now c.requires c.sources.result.now c.sources.ensures
    (length c.labels.result.now) c.labels.ensures.one_each

pub take_preferred-requires-clause-liked : goal.take_preferred-requires-clause-liked
take_preferred-requires-clause-liked g c =
    read_within g.A.Algebra.algebra (standing c.args.scope.now).net (standing c.args.scope.now).rules c.args.target.now.path.now
    c.args.desk.now c.requires c.sources.result.now c.sources.ensures
    (length c.as_slice.result.now) (ap length c.as_slice.ensures.value ∙ c.requires.made.liked)

pub take_preferred-requires-clause-places : goal.take_preferred-requires-clause-places
take_preferred-requires-clause-places g c =
    read_within g.A.Algebra.algebra (standing c.args.scope.now).net (standing c.args.scope.now).rules c.args.target.now.path.now
    c.args.desk.now c.requires c.sources.result.now c.sources.ensures
    (length c.as_mut_slice.result.now) (ap length c.as_mut_slice.ensures.value ∙ c.requires.made.states)

pub returns : goal.returns
returns g c = grind (arith, common_steps)
