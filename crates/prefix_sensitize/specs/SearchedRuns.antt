-- What the searches for the first paths of a circuit are handed, and the run that they make (this project's own).
use Rattle.std.specs.Prelude.{◌≡◌, ℕ, ◌≤◌, List}
use Rattle.pd_base.specs.declared.limits.TheConstants.{MOST_PATHS}
use Rattle.pd_base.specs.declared.rules.Rules.{Rules}
use Rattle.pd_base.specs.Route.{Route}
use Rattle.netlist.specs.Circuit.{Circuit}
use Rattle.netlist.specs.Order.{AreFirst}
use Rattle.netlist.specs.Waves.{Delays}
use Rattle.runs.specs.Lawful.{IsLawfulRun}
use Rattle.runs.specs.declared.run.Run.{Run}
use Rattle.good_runs.specs.GoodRun.{IsGoodRun}
use Rattle.good_runs.specs.Shortest.{IsShortestRun}
use Rattle.good_runs.specs.ZeroOutside.{LeavesZeroOutside}

-- these are the first paths of the circuit, for some number of them that may be asked for; there are fewer where the circuit has fewer
pub record AreFirstOnes (c : Circuit) (delays : Delays) (routes : List Route) : Type 0 where
  pub count : ℕ
  pub few : count ≤ MOST_PATHS
  pub are_first : AreFirst c delays count routes

-- The run is good for whichever number of paths these are the first ones, and for this budget; it can be written as files, and is one under
-- these rules. A refutation whose prefix implication alone refutes is one closed leaf, at the shortest such prefix. A test leaves the sources
-- outside the support of its path at 0, as far as no link gives them their bits.
pub record IsSearchedRun (c : Circuit) (delays : Delays) (routes : List Route) (budget : ℕ) (rules : Rules) (run : Run) : Type 0 where
  pub good : (count : ℕ) → AreFirst c delays count routes → IsGoodRun c delays count budget run
  pub lawful : IsLawfulRun c run
  pub of_rules : run.rules ≡ rules
  pub shortest : IsShortestRun c run
  pub zero_outside : LeavesZeroOutside c run
