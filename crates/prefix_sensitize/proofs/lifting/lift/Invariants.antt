use Rattle.implication.specs.Scopes.{IsSameScope, standing}
use Rattle.prefix_sensitize.specs.Entering.{IsSameBeginning}
use Rattle.prefix_sensitize.specs.Lifting.{HasLiftedTo}
use Rattle.std.proofs.Common.{◌-◌, length}
use Rattle.prefix_sensitize.proofs.lifting.lift.Given as goal

-- the walk has come to a place
abbrev pub invariant-lifts : goal.invariant-lifts
invariant-lifts g l = record {
  scope : IsSameScope l.fn.scope l.scope;
  same : IsSameBeginning (standing l.fn.scope) (standing l.scope);
  on : HasLiftedTo (standing l.fn.scope) (standing l.scope) l.course l.place l.at l.fn.descent l.descent l.fn.found l.found;
}

abbrev pub decreases-lifts : goal.decreases-lifts
decreases-lifts g l = length l.course.order.now - l.at
