-- The source is listed, as each other one with a weight was.
use Rattle.search_hints.proofs.Weighing.{listed_more}
use Rattle.search_hints.proofs.source_weights.SourceWeights.raise.Goals as goal

pub invariant_of-self : goal.invariant_of-self
invariant_of-self c =
    listed_more c.self.inside.weights c.raise.new.self c.args.source c.self.inside.weighed c.add.new.self c.self.invariant c.raise.ensures
    c.add.ensures
