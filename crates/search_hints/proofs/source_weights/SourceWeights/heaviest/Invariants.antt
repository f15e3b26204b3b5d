-- The heaviest source so far is one of those that are listed.
use Rattle.std.proofs.Common.{Contains, IfSome}
use Rattle.search_hints.proofs.source_weights.SourceWeights.heaviest.Given as goal

abbrev pub invariant-loop-source : goal.invariant-loop-source
invariant-loop-source g l = IfSome l.heaviest (λ source. Contains l.source-items source)
