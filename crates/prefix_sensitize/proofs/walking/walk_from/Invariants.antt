use Rattle.std.proofs.Common.{◌-◌, ◌≤◌, length}
use Rattle.implication.specs.Scopes.{IsSameScope, standing}
use Rattle.justify.specs.Desks.{IsDeskFor}
use Rattle.prefix_sensitize.specs.Coming.{HasComeAlong}
use Rattle.prefix_sensitize.specs.Entering.{IsSameBeginning}
use Rattle.prefix_sensitize.specs.Outcomes.{KeepsOthers}
use Rattle.prefix_sensitize.proofs.walking.walk_from.Given as goal

abbrev pub ghost-visit_and_lift : goal.ghost-visit_and_lift
ghost-visit_and_lift g a = g.begin

-- the scope stands where the walk has come to
abbrev pub invariant-paths : goal.invariant-paths
invariant-paths g l = record {
  scope : IsSameScope l.fn.scope l.scope;
  same : IsSameBeginning (standing l.fn.scope) (standing l.scope);
  desk : IsDeskFor g.A.Algebra.algebra (standing l.fn.scope).net (standing l.fn.scope).rules l.desk;
  come : HasComeAlong (standing l.scope) l.course g.begin l.at l.descent l.found l.steps;
  others : KeepsOthers l.course.aim l.fn.found.proofs.items l.found.proofs.items;
  behind : l.place ≤ l.at;
  within : l.at ≤ length l.course.order.now;
}

abbrev pub decreases-paths : goal.decreases-paths
decreases-paths g l = length l.course.order.now - l.at
