-- The desk still serves, and what is listed so far can be tried.
use Rattle.std.specs.List.{All}
use Rattle.implication.specs.Scopes.{standing}
use Rattle.justify.specs.Desks.{IsDesk}
use Rattle.pair_judging.specs.Targets.{seen_target}
use Rattle.justify.specs.Trying.{CanTry}
use Rattle.justify.proofs.trying.renew_closers.Given as goal

abbrev pub invariant-loop-entry : goal.invariant-loop-entry
invariant-loop-entry g l =
    IsDesk g.A.Algebra.algebra (standing l.scope).net (standing l.scope).rules l.target.path.now l.desk
    × All (CanTry g.A.Algebra.algebra (seen_target l.target) (standing l.scope)) l.desk.renewed.items
