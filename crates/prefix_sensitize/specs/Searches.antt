-- What all searches for tests of listed paths found, in words that are spoken inside this crate alone (this project's own).
use Rattle.std.specs.Prelude.{◌≡◌, ℕ, ◌≤◌, Bool, true, false, List, length, slice_get, Some, All}
use Rattle.netlist.specs.LinkedPairs.{FitRules}
use Rattle.pd_base.specs.declared.limits.TheConstants.{MOST_PATHS}
use Rattle.pd_base.specs.Route.{Route}
use Rattle.pd_base.specs.Target.{target_of}
use Rattle.pd_base.specs.declared.fault.Direction.{Direction}
use Rattle.pd_base.specs.declared.fault.Kind.TheVariants as kinds
use Rattle.pd_base.specs.declared.rules.Rules.{Rules}
use Rattle.netlist.specs.Circuit.{Circuit}
use Rattle.netlist.specs.Paths.{IsPath}
use Rattle.runs.specs.declared.run.Proof.{Proof}
use Rattle.prefix_sensitize.specs.declared.outcome.RowOutcome.{RowOutcome}
use Rattle.prefix_sensitize.specs.declared.outcome.RowOutcome.TheVariants.{Unsearched, Tested, Proved}
use Rattle.prefix_sensitize.specs.declared.all_outcomes.BothOutcomes.{BothOutcomes}
use Rattle.prefix_sensitize.specs.declared.all_outcomes.DirectionFindings.{DirectionFindings}
use Rattle.prefix_sensitize.specs.declared.all_outcomes.FaultOutcomes.{FaultOutcomes}
use Rattle.prefix_sensitize.specs.declared.all_outcomes.AllOutcomes.{AllOutcomes}
use Rattle.prefix_sensitize.specs.Outcomes.{AreFoundProofs, IsOutcome, outcome_at}
use Rattle.prefix_sensitize.specs.Readiness.{AddsProofsFor}

-- what outcomes speak of: the rules for pairs, the budget of each search, the listed paths, and the proofs that were found
pub record Searches : Type 0 where
  pub rules : Rules
  pub budget : ℕ
  pub routes : List Route
  pub proofs : List Proof

-- the searches of listed paths under these rules and within this budget
abbrev pub searches_of : Rules → ℕ → List Route → AllOutcomes → Searches
searches_of rules budget routes outcomes =
    record { rules = rules; budget = budget; routes = routes; proofs = outcomes.proofs.items }

-- the rules fit the circuit; the listed paths are some of it, few enough for the files, and the proofs are what searches promise
pub record AreSearches (c : Circuit) (searches : Searches) : Type 0 where
  pub fit : FitRules c searches.rules
  pub are_paths : All (IsPath c) searches.routes
  pub few : length searches.routes ≤ MOST_PATHS
  pub found : AreFoundProofs c searches.rules searches.budget searches.routes searches.proofs

-- whether the outcome is a test
abbrev pub is_test : RowOutcome → Bool
is_test Unsearched = false
is_test (Tested pair) = true
is_test (Proved index) = false

-- the outcomes of a fault whose path stands in this row: the nonrobust one tells where the robust one is no test
pub record AreFaultOutcomes (c : Circuit) (rules : Rules) (routes : List Route) (proofs : List Proof) (row : ℕ) (direction : Direction) (path : Route)
    (outcomes : FaultOutcomes) : Type 0 where
  pub robust : IsOutcome c rules routes proofs row (target_of path direction kinds.Robust) outcomes.robust
  pub nonrobust : is_test outcomes.robust ≡ false
      → IsOutcome c rules routes proofs row (target_of path direction kinds.Nonrobust) outcomes.nonrobust

-- the outcomes of the fault in a row
abbrev pub fault_outcomes : BothOutcomes → ℕ → FaultOutcomes
fault_outcomes outcomes row = record {
  robust = outcome_at outcomes.robust.items row;
  nonrobust = outcome_at outcomes.nonrobust.items row;
}

-- there are outcomes for each path, and those from this row on are of their faults
pub record AreBothOutcomesFrom (c : Circuit) (rules : Rules) (routes : List Route) (proofs : List Proof) (direction : Direction) (from : ℕ)
    (outcomes : BothOutcomes) : Type 0 where
  pub robust : length outcomes.robust.items ≡ length routes
  pub nonrobust : length outcomes.nonrobust.items ≡ length routes
  pub each : (row : ℕ) (route : Route) → from ≤ row → slice_get routes row ≡ Some route
      → AreFaultOutcomes c rules routes proofs row direction route (fault_outcomes outcomes row)

-- the outcomes for this direction; and the proofs are those from before, and behind them some about it
pub record AreDirectionFindings (c : Circuit) (rules : Rules) (budget : ℕ) (routes : List Route) (direction : Direction) (before : List Proof)
    (found : DirectionFindings) : Type 0 where
  pub outcomes : AreBothOutcomesFrom c rules routes found.proofs.items direction 0 found.outcomes
  pub proofs : AreFoundProofs c rules budget routes found.proofs.items
  pub adds : AddsProofsFor direction before found.proofs.items
