use Rattle.std.proofs.Common.{◌≡◌, ◌+◌, ◌≤◌}
use Rattle.implication.specs.Scopes.{IsSameScope, standing}
use Rattle.prefix_sensitize.specs.AlongPaths.{IsAtPin}
use Rattle.prefix_sensitize.specs.Entering.{IsSameBeginning}
use Rattle.prefix_sensitize.proofs.descent.Descent.go_on.Given as goal

-- the pins so far are entered, and counted
abbrev pub invariant-loop-count : goal.invariant-loop-count
invariant-loop-count g l = record {
  scope : IsSameScope l.fn.scope l.scope;
  same : IsSameBeginning (standing l.fn.scope) (standing l.scope);
  stands : IsAtPin g.A.Algebra.algebra (standing l.scope) l.self l.path l.count;
  farther : l.from ≤ l.count;
  counted : l.from + l.steps ≡ l.fn.steps + l.count;
}
