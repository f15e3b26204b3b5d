use Rattle.std.proofs.Common.{[]}
use Rattle.pd_base.specs.Target.{Target}
use Rattle.implication.specs.Scopes.{IsSameScope, standing}
use Rattle.trees.specs.Faults.{RefutesAtNode}
use Rattle.implication.specs.Settings.{IsSameSetting}
use Rattle.refutation_check.specs.Walks.{IsScopeAt, IsWalkFrom}
use Rattle.refutation_check.proofs.Checking.{HasChecked}
use Rattle.refutation_check.proofs.refutation.walk_refutation.Given as goal

-- each node so far was right
abbrev pub invariant-loop-place : goal.invariant-loop-place
invariant-loop-place g l = record {
  scope : IsSameScope l.fn.scope l.scope;
  setting : IsSameSetting (standing l.fn.scope) (standing l.scope);
  walk : IsWalkFrom (standing l.fn.scope) (standing l.scope) l.pending.items;
  checked : (target : Target) → IsScopeAt g.A.Algebra.algebra target [] (standing l.fn.scope)
      → HasChecked g.A.Algebra.algebra (RefutesAtNode g.A.Algebra.algebra (standing l.fn.scope).net (standing l.fn.scope).rules target) (λ line. Unit {0}) target l.node-items l.place
      (standing l.scope) l.pending.items;
}
