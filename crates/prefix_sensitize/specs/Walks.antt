-- What the searches for one aim stand on (this project's own).
use Rattle.std.specs.Prelude.{◌≡◌, ◌≢◌, ℕ, ◌+◌, ◌≤◌, Bool, List, length, slice_get, Some, All, AllPairs}
use Rattle.pd_base.specs.declared.rules.Rules.{Rules}
use Rattle.pd_base.specs.declared.limits.TheConstants.{MOST_BUDGET, MOST_PATHS}
use Rattle.netlist.specs.declared.limits.TheConstants.{MOST_LEVELS}
use Rattle.pd_base.specs.Route.{Route}
use Rattle.netlist.specs.Circuit.{Circuit}
use Rattle.netlist.specs.Paths.{IsPath, end_of}
use Rattle.implication.specs.Standing.{Standing, IsTold}
use Rattle.good_runs.specs.Truth.{HasSomeTest}
use Rattle.prefix_sensitize.specs.declared.outcome.Aim.{Aim}
use Rattle.prefix_sensitize.specs.Outcomes.{IsNeeded, target_for}
use Rattle.prefix_sensitize.specs.Prefixes.{AreListedPrefixes}

-- listed paths, none twice: few enough, and of few enough steps, to be numbered and counted
pub record AreSearchablePaths (c : Circuit) (routes : List Route) : Type 0 where
  pub are_paths : All (IsPath c) routes
  pub once : AllPairs (λ p q. p ≢ q) routes
  pub few : length routes ≤ MOST_PATHS
  pub short : All (λ route. length route.steps ≤ MOST_LEVELS) routes

-- the end of each path is told, as the engine stands
abbrev pub AreToldPaths : Standing → List Route → Type 0
AreToldPaths standing routes = All (λ route. IsTold standing (end_of standing.net route)) routes

-- a budget that the program takes
pub record IsBudget (budget : ℕ) : Type 0 where
  pub positive : 1 ≤ budget
  pub within : budget ≤ MOST_BUDGET

-- where no outcome is needed there is a test anyway
abbrev pub AreExcused : Circuit → Rules → Aim → List Route → List Bool → Type 0
AreExcused c rules aim routes needed =
    (row : ℕ) (route : Route) → slice_get routes row ≡ Some route → ¬ IsNeeded needed row → HasSomeTest c rules (target_for aim route)

-- as many steps were counted as prefixes were entered, each of a listed path, and none twice
pub record CountsPrefixes (routes : List Route) (old new : ℕ) : Type 0 where
  pub entered : List Route
  pub are_prefixes : AreListedPrefixes routes entered
  pub counts : new ≡ old + length entered
