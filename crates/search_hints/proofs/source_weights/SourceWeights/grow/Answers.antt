-- Each source with a weight is listed, as it was.
use Rattle.std.proofs.Common.{◌^◌}
use Rattle.search_hints.proofs.Weighing.{listed_divided}
use Rattle.search_hints.proofs.source_weights.SourceWeights.grow.Goals as goal

pub invariant_of-self : goal.invariant_of-self
invariant_of-self c =
    listed_divided (2 ^ 32) c.self.inside.weights c.grow.new.self c.self.inside.weighed c.self.invariant c.grow.ensures
