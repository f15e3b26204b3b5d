-- How a scope stands while a tree grows on it, in words that are spoken inside this crate alone (this project's own).
use Rattle.std.specs.Prelude.{◌≡◌, ◌≤◌, List, length, take, map, Some, None}
use Rattle.pd_base.specs.Route.{Route}
use Rattle.pd_base.specs.Target.{Target}
use Rattle.implication.specs.declared.assumption.Assumption.{Assumption}
use Rattle.implication.specs.declared.assumption.Assumption.TheVariants.{Entered}
use Rattle.implication.specs.Standing.{Standing}
use Rattle.implication.specs.NodeScopes.{beginning_of}

-- the pins of a path as entered one after another
abbrev pub entered_steps : Route → List Assumption
entered_steps path = map (λ step. Entered step) path.steps

-- while it goes on: what was entered still is, and no conflict stands
pub record IsUnderWay (target : Target) (standing : Standing) : Type 0 where
  pub beginning : standing.beginning ≡ Some (beginning_of target)
  pub longer : length target.path.steps ≤ length standing.assumptions
  pub front : take (length target.path.steps) standing.assumptions ≡ entered_steps target.path
  pub free : standing.conflict ≡ None
