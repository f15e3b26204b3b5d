use Rattle.std.proofs.Common.{◌-◌, ◌≤◌, length}
use Rattle.justify.specs.Desks.{IsDeskFor}
use Rattle.prefix_sensitize.specs.Coming.{HasComeApart}
use Rattle.prefix_sensitize.specs.Entering.{IsIdleAgain}
use Rattle.prefix_sensitize.specs.Outcomes.{KeepsOthers}
use Rattle.prefix_sensitize.proofs.walking.walk_course.Given as goal

abbrev pub ghost-walk_source : goal.ghost-walk_source
ghost-walk_source g a = g.begin

-- the walk has come to this place
abbrev pub invariant-loop-place : goal.invariant-loop-place
invariant-loop-place g l = record {
  rest : IsIdleAgain l.fn.engine l.engine;
  desk : IsDeskFor g.A.Algebra.algebra l.fn.engine.net l.fn.engine.rules l.desk;
  come : HasComeApart l.fn.engine.net l.fn.engine.rules l.course g.begin l.place l.found l.steps;
  others : KeepsOthers l.course.aim l.fn.found.proofs.items l.found.proofs.items;
  within : l.place ≤ length l.course.order.now;
}

abbrev pub decreases-loop-place : goal.decreases-loop-place
decreases-loop-place g l = length l.course.order.now - l.place
