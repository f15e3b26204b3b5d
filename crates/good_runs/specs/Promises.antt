-- What the verdicts of a run tell of their faults, under the rules of the run (path delay testing under transport delay; states and
-- trees are this project's own).
use Rattle.std.specs.Prelude.{◌≡◌, ◌⊎◌, ℕ, ◌-◌, ◌≤◌, ◌^◌, true, List, [], length}
use Rattle.pd_base.specs.Links.{links_of}
use Rattle.pd_base.specs.Pair.{Vectors}
use Rattle.pd_base.specs.Route.{Route}
use Rattle.pd_base.specs.Target.{Target, target_of}
use Rattle.pd_base.specs.declared.test.Test.{Test}
use Rattle.pd_base.specs.declared.fault.Direction.{Direction}
use Rattle.pd_base.specs.declared.fault.Kind.{Kind}
use Rattle.pd_base.specs.declared.fault.Kind.TheVariants as kinds
use Rattle.pd_base.specs.declared.rules.Rules.{Rules}
use Rattle.netlist.specs.Circuit.{Circuit}
use Rattle.netlist.specs.Conditions.{Meets}
use Rattle.netlist.specs.LinkedPairs.{IsOfRules}
use Rattle.netlist.specs.Meaning.{Detects, DetectsSettled, DetectsSettledAlong, HoldsBack}
use Rattle.netlist.specs.Paths.{IsPrefixOf}
use Rattle.netlist.specs.Values.{observed_values}
use Rattle.state_sets.specs.declared.state.StateSet.{StateSet}
use Rattle.state_sets.specs.Hulls.{IsNarrowingOf, HasNoEmptySet, Closes}
use Rattle.state_laws.specs.Nodes.{IsNodeHull}
use Rattle.trees.specs.Algebras.{algebra_of}
use Rattle.trees.specs.Bounds.{AreSupport, states_of_source}
use Rattle.trees.specs.Refutations.{IsRefutation}
use Rattle.trees.specs.Spent.{IsSpent, MayTry}
use Rattle.trees.specs.Tried.{ShowsFailures}
use Rattle.runs.specs.declared.run.ListedPath.{ListedPath}
use Rattle.runs.specs.declared.run.Proof.{Proof}
use Rattle.runs.specs.declared.run.Run.{Run}
use Rattle.runs.specs.declared.run.Verdict.{Verdict}
use Rattle.runs.specs.declared.run.Verdict.TheVariants.{Robust, Nonrobust, Untestable, Aborted}
use Rattle.runs.specs.Verdicts.{is_robust, is_untestable}
use Rattle.good_runs.specs.Faults.{IsNumber, IsFault}
use Rattle.good_runs.specs.GoodRun.{IsTestOf}
use Rattle.good_runs.specs.Shortest.{ClosesAtStart}
use Rattle.good_runs.specs.Truth.{IsTruth}

-- The test of this number is one for the target, whose path has this number: it names the path, the direction and the kind, its pair
-- meets the conditions, it is one of the rules, and the test expects what the observed lines have under its second vector. And the pair
-- shows this.
pub record ShowsByTest (c : Circuit) (run : Run) (path_number : ℕ) (target : Target) (Shows : Vectors → Type 0) (number : ℕ) : Type 0 where
  pub test : Test
  pub is_test : IsNumber run.tests number test
  pub of_fault : IsTestOf c path_number target test
  pub of_rules : IsOfRules c run.rules test.pair
  pub expects : test.expected ≡ observed_values c test.pair.second
  pub shows : Shows test.pair

-- What a robust test shows of a path, under every delay assignment: the last line of each prefix changes no earlier than at the prefix's
-- length; so the sample at the path's end is wrong whenever the path is late.
pub record ShowsLate (c : Circuit) (path : Route) (pair : Vectors) : Type 0 where
  pub holds_back : HoldsBack c path pair
  pub detects : Detects c path pair

-- What a nonrobust test shows of a path, under every delay assignment under which the path is late and its sides have settled: each
-- prefix is wrong, read back from the time of sampling; so the sample at the path's end is wrong.
pub record ShowsLateSettled (c : Circuit) (path : Route) (pair : Vectors) : Type 0 where
  pub along : DetectsSettledAlong c path pair
  pub detects : DetectsSettled c path pair

-- the proof of this number refutes the target on a prefix of its path, under the rules of the run
pub record RefutesOnPrefix (c : Circuit) (run : Run) (target : Target) (number : ℕ) : Type 0 where
  pub proof : Proof
  pub is_proof : IsNumber run.proofs number proof
  pub prefix : Route
  pub is_prefix : IsPrefixOf prefix target.path
  pub refutes : IsRefutation c run.rules (target_of prefix target.direction target.kind) proof.tree

-- The proof of this number has a tree that spent exactly the budget on a test for the target, under the rules of the run. And the tree shows
-- this, at each split and each open leaf: some pair has the least states of the hull there at the sources of the support, and every pair that
-- has them, whatever it has at other sources, is no pair of the rules or fails the conditions.
pub record SpendsBudget (c : Circuit) (budget : ℕ) (run : Run) (target : Target) (number : ℕ) : Type 0 where
  pub proof : Proof
  pub is_proof : IsNumber run.proofs number proof
  pub is_spent : IsSpent c run.rules target budget proof.tree
  pub shows : ShowsFailures c run.rules target proof.tree

-- no pair of the rules of the run meets the conditions of the target
abbrev pub ExcludesPairs : Circuit → Run → Target → Type 0
ExcludesPairs c run target = (pair : Vectors) → IsOfRules c run.rules pair → ¬ Meets c target pair

-- why no robust test was found, as the proof of this number shows: it refutes the robust conditions, and no pair of the rules meets them;
-- or the budget was spent
abbrev pub LacksRobustTest : Circuit → ℕ → Run → Route → Direction → ℕ → Type 0
LacksRobustTest c budget run path direction number =
    (RefutesOnPrefix c run (target_of path direction kinds.Robust) number
    × ExcludesPairs c run (target_of path direction kinds.Robust))
    ⊎ SpendsBudget c budget run (target_of path direction kinds.Robust) number

-- A robust verdict: by its test the path is shown late under every delay assignment that makes it late. A nonrobust one: so it is where
-- the path's sides have settled, too; and why no robust test was found. Untestable: its proof refutes the nonrobust conditions, and no
-- pair of the rules meets the conditions of either kind. Aborted: why no robust test was found, and the tree of its nonrobust proof spent
-- exactly the budget.
abbrev pub VerdictTells : Circuit → ℕ → Run → ℕ → Route → Direction → Verdict → Type 0
VerdictTells c budget run path_number path direction (Robust number) =
    ShowsByTest c run path_number (target_of path direction kinds.Robust) (ShowsLate c path) number
VerdictTells c budget run path_number path direction (Nonrobust number proof) =
    ShowsByTest c run path_number (target_of path direction kinds.Nonrobust) (ShowsLateSettled c path) number
    × LacksRobustTest c budget run path direction proof
VerdictTells c budget run path_number path direction (Untestable proof) =
    RefutesOnPrefix c run (target_of path direction kinds.Nonrobust) proof
    × ((kind : Kind) → ExcludesPairs c run (target_of path direction kind))
VerdictTells c budget run path_number path direction (Aborted robust nonrobust) =
    LacksRobustTest c budget run path direction robust
    × SpendsBudget c budget run (target_of path direction kinds.Nonrobust) nonrobust

-- the start of a path does not close for the robust kind, and neither does its trial
pub record PassesTrialAtStart (c : Circuit) (rules : Rules) (path : Route) (direction : Direction) : Type 0 where
  pub hull : List StateSet
  pub is_hull : IsNodeHull (algebra_of rules) c rules (target_of path direction kinds.Robust) [] hull
  pub none_empty : HasNoEmptySet c hull
  pub passes_trial : ¬ Closes (algebra_of rules) c (IsNarrowingOf c (links_of rules) kinds.Robust path.steps)
      (MayTry c rules (target_of path direction kinds.Robust) [] hull)

-- What a verdict promises: what it tells; that a budget of at least the number of states that the rules leave a source, to the power
-- of the number of sources in the path's support, its own not counted, finds out what there is; and that the start decides, whatever
-- the budget: a fault is untestable where its start closes for the nonrobust kind, and robust where neither its start nor the trial
-- there closes for the robust kind.
pub record KeepsPromises (c : Circuit) (budget : ℕ) (run : Run) (path_number : ℕ) (path : Route) (direction : Direction) (verdict : Verdict) : Type 0 where
  pub tells : VerdictTells c budget run path_number path direction verdict
  pub great_budget : (sources : List ℕ) → AreSupport c run.rules path sources → states_of_source run.rules ^ (length sources - 1) ≤ budget
      → IsTruth c run.rules path direction verdict
  pub closed_start : ClosesAtStart c run.rules (target_of path direction kinds.Nonrobust) → is_untestable verdict ≡ true
  pub passed_trial : PassesTrialAtStart c run.rules path direction → is_robust verdict ≡ true

-- each fault of the run has its verdict, and it promises this
abbrev pub AllKeepPromises : Circuit → ℕ → Run → Type 0
AllKeepPromises c budget run =
    (number : ℕ) (listed : ListedPath) (direction : Direction) (verdict : Verdict)
    → IsFault run number listed direction verdict → KeepsPromises c budget run number listed.path direction verdict
