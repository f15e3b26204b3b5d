-- What a walk goes by, in words that are spoken inside this crate alone (this project's own).
use Rattle.std.specs.Prelude.{◌≡◌, ℕ, length, Option, Some, All}
use Rattle.pd_base.specs.declared.ids.LineId.{LineId}
use Rattle.pd_base.specs.Links.{links_of}
use Rattle.pd_base.specs.declared.rules.Rules.{Rules}
use Rattle.pd_base.specs.Route.{Route}
use Rattle.netlist.specs.Circuit.{Circuit}
use Rattle.netlist.specs.Lawful.{IsCircuit}
use Rattle.netlist.specs.LinkedPairs.{FitRules}
use Rattle.netlist.specs.Paths.{end_of}
use Rattle.implication.specs.Standing.{ToldEnds, Standing, IsToldBy}
use Rattle.prefix_sensitize.specs.declared.course.Course.{Course}
use Rattle.prefix_sensitize.specs.PathOrder.{IsOrder, StandsInOrder}
use Rattle.prefix_sensitize.specs.Walks.{AreExcused, AreSearchablePaths, IsBudget}

-- listed paths that can be searched on this circuit under these rules, which fit it, with their ends told, in an order; and where no
-- outcome is asked for there is a test
pub record IsCourse (c : Circuit) (rules : Rules) (ends : Option ToldEnds) (course : Course) : Type 0 where
  pub circuit : IsCircuit c
  pub fit : FitRules c rules
  pub searchable : AreSearchablePaths c course.paths.now
  pub told : All (λ route. IsToldBy c (links_of rules) ends (end_of c route)) course.paths.now
  pub order : IsOrder course.paths.now course.order.now
  pub one_each : length course.needed.now ≡ length course.paths.now
  pub excused : AreExcused c rules course.aim course.paths.now course.needed.now
  pub budget : IsBudget course.aim.budget

-- a path stands at this place of the order, and begins at this source
pub record BeginsAt (course : Course) (place : ℕ) (line : LineId) : Type 0 where
  pub row : ℕ
  pub route : Route
  pub stands : StandsInOrder course.paths.now course.order.now place row route
  pub source : route.source ≡ line

-- a path stands at this place, and the scope was begun at its source for what is searched for
pub record IsBegunAt (standing : Standing) (course : Course) (place : ℕ) : Type 0 where
  pub row : ℕ
  pub route : Route
  pub stands : StandsInOrder course.paths.now course.order.now place row route
  pub begun : standing.beginning ≡ Some (record { source = route.source; direction = course.aim.direction; kind = course.aim.kind })
