use Rattle.std.proofs.Common.{[], take}
use Rattle.pd_base.specs.Target.{Target}
use Rattle.implication.specs.Scopes.{standing}
use Rattle.implication.specs.Settings.{IsSameSetting}
use Rattle.refutation_check.specs.Walks.{IsScopeAt}
use Rattle.refutation_check.proofs.node_hull.assume_halves.Given as goal

-- the scope is at the node below so many halves
abbrev pub invariant-loop-half : goal.invariant-loop-half
invariant-loop-half g l = record {
  setting : IsSameSetting (standing l.fn.scope) (standing l.scope);
  below : (target : Target) → IsScopeAt g.A.Algebra.algebra target [] (standing l.fn.scope) → IsScopeAt g.A.Algebra.algebra target (take l.half-index l.halves) (standing l.scope);
}
