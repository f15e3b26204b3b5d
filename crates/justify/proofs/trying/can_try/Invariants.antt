-- The sources so far can be tried.
use Rattle.std.proofs.Common.{take}
use Rattle.std.specs.List.{All}
use Rattle.implication.specs.Scopes.{standing}
use Rattle.pair_judging.specs.Targets.{seen_target}
use Rattle.justify.specs.Trying.{CanTry}
use Rattle.justify.proofs.trying.can_try.Given as goal

abbrev pub invariant-loop-entry : goal.invariant-loop-entry
invariant-loop-entry g l = All (CanTry g.A.Algebra.algebra (seen_target l.target) (standing l.scope)) (take l.entry-index l.tried)
