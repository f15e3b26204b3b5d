-- The sources so far are held in the states tried, nothing else is assumed, and no conflict came.
use Rattle.std.proofs.Common.{take}
use Rattle.implication.specs.Clients.{ExtendsStanding}
use Rattle.implication.specs.Scopes.{IsSameScope, standing}
use Rattle.pair_judging.specs.Targets.{seen_target}
use Rattle.justify.specs.Trying.{IsWithinTrial, AreHeld}
use Rattle.justify.proofs.trial.assume_all.Given as goal

abbrev pub invariant-loop-place : goal.invariant-loop-place
invariant-loop-place g l = record {
  scope : IsSameScope l.initial.scope l.scope;
  extends : ExtendsStanding (standing l.initial.scope) (standing l.scope);
  trial : IsWithinTrial g.A.Algebra.algebra (seen_target l.target) (standing l.initial.scope) (standing l.scope) (take l.place l.tried);
  held : AreHeld g.A.Algebra.algebra (seen_target l.target) (standing l.initial.scope) (standing l.scope) (take l.place l.tried);
}
