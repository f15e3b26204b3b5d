-- How far a walk has come, in words that are spoken inside this crate alone (this project's own).
use Rattle.std.specs.Prelude.{◌≡◌, ℕ, ◌+◌, ◌*◌, ◌<◌, ◌≤◌, ◌⊎◌, List, length, Contains}
use Rattle.pd_base.specs.declared.ids.LineId.{LineId}
use Rattle.pd_base.specs.declared.ids.PinRef.{PinRef}
use Rattle.pd_base.specs.declared.rules.Rules.{Rules}
use Rattle.pd_base.specs.Route.{Route}
use Rattle.netlist.specs.declared.limits.TheConstants.{MOST_LEVELS}
use Rattle.netlist.specs.Circuit.{Circuit}
use Rattle.netlist.specs.Paths.{IsPrefixOf}
use Rattle.runs.specs.declared.run.Proof.{Proof}
use Rattle.implication.specs.Standing.{Standing}
use Rattle.good_runs.specs.Faults.{NoneApplies}
use Rattle.prefix_sensitize.specs.declared.course.Course.{Course}
use Rattle.prefix_sensitize.specs.declared.outcome.Findings.{Findings}
use Rattle.prefix_sensitize.specs.declared.outcome.RowOutcome.{RowOutcome}
use Rattle.prefix_sensitize.specs.Entering.{HasGone}
use Rattle.prefix_sensitize.specs.Outcomes.{AreFoundProofs, IsNeeded, IsOutcome, outcome_at, target_for}
use Rattle.prefix_sensitize.specs.PathOrder.{StandsInOrder}
use Rattle.prefix_sensitize.specs.Prefixes.{AreListedPrefixes}

-- the prefix is one of a path that stands before this place
pub record HasEarlier (course : Course) (place : ℕ) (prefix : Route) : Type 0 where
  pub at : ℕ
  pub row : ℕ
  pub route : Route
  pub stands : StandsInOrder course.paths.now course.order.now at row route
  pub earlier : at < place
  pub is_prefix : IsPrefixOf prefix route

-- The walk has come to this place. Each path before it has its outcome, if one is needed, and no refutation applies to a path from here on.
-- What was entered since the count of steps stood at `begin` are prefixes of paths before this place, none twice; and each prefix of a
-- path before it that needed an outcome was entered, or a refutation applies to it.
pub record HasCome (c : Circuit) (rules : Rules) (course : Course) (begin place : ℕ) (outcomes : List RowOutcome) (proofs : List Proof)
    (steps : ℕ) : Type 0 where
  pub one_each : length outcomes ≡ length course.paths.now
  pub found : AreFoundProofs c rules course.aim.budget course.paths.now proofs
  pub settled : (at row : ℕ) (route : Route) → StandsInOrder course.paths.now course.order.now at row route → at < place
      → IsNeeded course.needed.now row → IsOutcome c rules course.paths.now proofs row (target_for course.aim route) (outcome_at outcomes row)
  pub none_ahead : (at row : ℕ) (route : Route) → StandsInOrder course.paths.now course.order.now at row route → place ≤ at
      → NoneApplies course.paths.now proofs (target_for course.aim route)
  pub entered : List Route
  pub are_prefixes : AreListedPrefixes course.paths.now entered
  pub counts : steps ≡ begin + length entered
  pub few : steps ≤ begin + place * MOST_LEVELS
  pub of_earlier : (prefix : Route) → Contains entered prefix → HasEarlier course place prefix
  pub whole : (at row : ℕ) (route prefix : Route) → StandsInOrder course.paths.now course.order.now at row route → at < place
      → IsNeeded course.needed.now row → IsPrefixOf prefix route → 1 ≤ length prefix.steps
      → Contains entered prefix ⊎ ¬ NoneApplies course.paths.now proofs (target_for course.aim prefix)

-- What was entered stands on a route: all prefixes of the route were entered; and each one that was entered, and that a path from this
-- place on has, is a prefix of the route.
pub record StandsOn (course : Course) (place : ℕ) (entered : List Route) (along : Route) : Type 0 where
  pub all : (prefix : Route) → IsPrefixOf prefix along → 1 ≤ length prefix.steps → Contains entered prefix
  pub only : (prefix : Route) → Contains entered prefix → (at row : ℕ) (route : Route)
      → StandsInOrder course.paths.now course.order.now at row route → place ≤ at → IsPrefixOf prefix route → IsPrefixOf prefix along

-- the walk has come to this place, and what was entered stands on a route
pub record HasComeOn (c : Circuit) (rules : Rules) (course : Course) (begin place : ℕ) (along : Route) (outcomes : List RowOutcome)
    (proofs : List Proof) (steps : ℕ) : Type 0 where
  pub come : HasCome c rules course begin place outcomes proofs steps
  pub on : StandsOn course place come.entered along

-- so it has within a scope, which has entered these pins
pub record HasComeAlong (standing : Standing) (course : Course) (begin place : ℕ) (pins : List PinRef) (found : Findings) (steps : ℕ)
    : Type 0 where
  pub source : LineId
  pub gone : HasGone standing (record { source = source; steps = pins }) course.aim pins
  pub come : HasComeOn standing.net standing.rules course begin place (record { source = source; steps = pins }) found.outcomes.items
      found.proofs.items steps

-- the walk has come to this place, and no path from here on has a prefix that was entered
pub record HasComeApart (c : Circuit) (rules : Rules) (course : Course) (begin place : ℕ) (found : Findings) (steps : ℕ) : Type 0 where
  pub come : HasCome c rules course begin place found.outcomes.items found.proofs.items steps
  pub apart : (prefix : Route) → Contains come.entered prefix → (at row : ℕ) (route : Route)
      → StandsInOrder course.paths.now course.order.now at row route → place ≤ at → ¬ IsPrefixOf prefix route
