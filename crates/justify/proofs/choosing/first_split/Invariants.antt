-- No split was found at the sources so far.
use Rattle.std.proofs.Common.{take}
use Rattle.implication.specs.Scopes.{standing}
use Rattle.justify.specs.Choices.{AreSingleAmong}
use Rattle.justify.proofs.choosing.first_split.Given as goal

abbrev pub invariant-loop-place : goal.invariant-loop-place
invariant-loop-place g l = AreSingleAmong g.A.Algebra.algebra (standing l.scope) (take l.place l.sources)
