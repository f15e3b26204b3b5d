use Rattle.trees.specs.Spent.{IsInSupport}
use Rattle.implication.specs.Scopes.{IsSameScope, standing}
use Rattle.trees.specs.Faults.{IsRightInSpent}
use Rattle.implication.specs.Settings.{IsSameSetting}
use Rattle.pair_judging.specs.Targets.{seen_target}
use Rattle.refutation_check.specs.Trials.{IsTrialRoomAt}
use Rattle.refutation_check.specs.Walks.{IsWalkFrom}
use Rattle.refutation_check.proofs.Checking.{HasChecked}
use Rattle.refutation_check.proofs.spent.walk_spent.Given as goal

-- each node so far was right
abbrev pub invariant-loop-place : goal.invariant-loop-place
invariant-loop-place g l = record {
  scope : IsSameScope l.fn.scope l.scope;
  setting : IsSameSetting (standing l.fn.scope) (standing l.scope);
  walk : IsWalkFrom (standing l.fn.scope) (standing l.scope) l.pending.items;
  room : IsTrialRoomAt g.A.Algebra.algebra (standing l.fn.scope).net (standing l.fn.scope).rules (seen_target l.target) l.room;
  checked : HasChecked g.A.Algebra.algebra (IsRightInSpent (standing l.fn.scope).net (standing l.fn.scope).rules (seen_target l.target))
      (IsInSupport (standing l.fn.scope).net (standing l.fn.scope).rules (seen_target l.target).path) (seen_target l.target)
      l.node-items l.place (standing l.scope) l.pending.items;
}
