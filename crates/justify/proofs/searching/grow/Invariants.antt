-- The tree has grown from the places so far; each place less leaves less to do.
use Rattle.std.proofs.Common.{◌+◌, ◌-◌, ◌*◌, ◌≤◌, length, reverse}
use Rattle.implication.specs.Scopes.{IsSameScope, standing}
use Rattle.justify.specs.Answers.{HasCounted}
use Rattle.justify.specs.Searches.{IsSearching}
use Rattle.implication.specs.Settings.{IsSameSetting}
use Rattle.justify.proofs.searching.grow.Given as goal

abbrev pub invariant-loop-place : goal.invariant-loop-place
invariant-loop-place g l = record {
  scope : IsSameScope l.initial.scope l.scope;
  setting : IsSameSetting (standing l.initial.scope) (standing l.scope);
  later : (standing l.initial.scope).closings ≤ (standing l.scope).closings;
  searching : IsSearching g.A.Algebra.algebra l.task (standing l.scope) l.desk (reverse l.growth.places.items) l.growth;
  counted : HasCounted (length l.growth.nodes.items) (standing l.initial.scope) (standing l.scope);
}

abbrev pub decreases-loop-place : goal.decreases-loop-place
decreases-loop-place g l = 2 * (l.task.budget - l.growth.splits) + length l.growth.places.items
