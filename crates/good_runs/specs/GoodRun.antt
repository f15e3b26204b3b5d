-- What a good run is, point by point (this project's own).
use Rattle.std.specs.Prelude.{◌≡◌, ℕ, ◌≤◌, max, true, false, length, map, count_by, ◌||◌, Bool, List, All}
use Rattle.pd_base.specs.Route.{Route}
use Rattle.pd_base.specs.Target.{Target, target_of}
use Rattle.pd_base.specs.declared.test.Test.{Test}
use Rattle.pd_base.specs.declared.fault.Direction.{Direction}
use Rattle.pd_base.specs.declared.fault.Kind.TheVariants as kinds
use Rattle.pd_base.specs.declared.rules.Rules.{Rules}
use Rattle.netlist.specs.Circuit.{Circuit, source_count}
use Rattle.netlist.specs.Values.{observed_values}
use Rattle.netlist.specs.Waves.{Delays}
use Rattle.netlist.specs.Paths.{IsPrefixOf, prefix_of, length_of}
use Rattle.netlist.specs.Order.{AreFirst}
use Rattle.netlist.specs.Greatest.{greatest}
use Rattle.netlist.specs.Conditions.{Meets}
use Rattle.netlist.specs.LinkedPairs.{IsOfRules}
use Rattle.runs.specs.declared.run.ListedPath.{ListedPath}
use Rattle.runs.specs.declared.run.Proof.{Proof}
use Rattle.runs.specs.declared.run.Run.{Run}
use Rattle.runs.specs.declared.run.Verdict.{Verdict}
use Rattle.runs.specs.declared.run.Verdict.TheVariants.{Robust, Nonrobust, Untestable, Aborted}
use Rattle.trees.specs.Trees.{split_count}
use Rattle.runs.specs.Verdicts.{verdicts_of, is_robust, is_nonrobust}
use Rattle.trees.specs.Refutations.{IsRefutation}
use Rattle.trees.specs.Spent.{IsSpent}
use Rattle.good_runs.specs.Faults.{IsNumber, IsFault, NoneApplies, CitesRefutation, CitesSpent, HasProof, routes_of}

-- whether the verdict has a test
abbrev pub is_tested : Verdict → Bool
is_tested verdict = is_robust verdict || is_nonrobust verdict

-- the greatest number of a proof that a verdict cites, or 0
abbrev pub greatest_cited : Verdict → ℕ
greatest_cited (Robust test) = 0
greatest_cited (Nonrobust test proof) = proof
greatest_cited (Untestable proof) = proof
greatest_cited (Aborted robust nonrobust) = max robust nonrobust

-- a refutation: its prefix is one of a listed path, and of none with a lesser number; its tree has no more splits than the budget,
-- and refutes its kind and direction for the prefix, under these rules
pub record IsGoodRefutation (c : Circuit) (rules : Rules) (budget : ℕ) (routes : List Route) (proof : Proof) : Type 0 where
  pub listed : Route
  pub is_listed : IsNumber routes proof.path listed
  pub has_steps : proof.steps ≤ length listed.steps
  pub is_first : (other : ℕ) (other_listed : Route) → IsNumber routes other other_listed
      → IsPrefixOf (prefix_of proof.steps listed) other_listed → proof.path ≤ other
  pub within_budget : split_count proof.tree ≤ budget
  pub refutation : IsRefutation c rules (target_of (prefix_of proof.steps listed) proof.dir proof.kind) proof.tree

-- a spent proof: it names a listed path and all its steps, and its tree spent exactly the budget on it, under these rules
pub record IsGoodSpent (c : Circuit) (rules : Rules) (budget : ℕ) (routes : List Route) (proof : Proof) : Type 0 where
  pub listed : Route
  pub is_listed : IsNumber routes proof.path listed
  pub whole : proof.steps ≡ length listed.steps
  pub is_spent : IsSpent c rules (target_of listed proof.dir proof.kind) budget proof.tree

-- the proof of an aborted fault: the budget was spent on it for the nonrobust kind, and no refutation of this kind applies
pub record HasNonrobustProof (run : Run) (number : ℕ) (direction : Direction) (path : Route) (proof : ℕ) : Type 0 where
  pub none_applies : NoneApplies (routes_of run) run.proofs (target_of path direction kinds.Nonrobust)
  pub cites : CitesSpent run.proofs kinds.Nonrobust direction number proof

-- the proof that a fault has no robust test
abbrev pub HasRobustProof : Run → ℕ → Direction → Route → ℕ → Type 0
HasRobustProof run number direction path proof =
    HasProof (routes_of run) run.proofs number (target_of path direction kinds.Robust) proof

-- the test for a target whose path has this number: it names the path, the direction and the kind, and its pair meets the conditions
pub record IsTestOf (c : Circuit) (number : ℕ) (target : Target) (test : Test) : Type 0 where
  pub of_path : test.path ≡ number
  pub of_direction : test.dir ≡ target.direction
  pub of_kind : test.kind ≡ target.kind
  pub first_fits : length test.pair.first ≡ source_count c
  pub second_fits : length test.pair.second ≡ source_count c
  pub meets : Meets c target test.pair

-- the test of this number is one for the target
pub record HasTest (c : Circuit) (tests : List Test) (number : ℕ) (target : Target) (test_number : ℕ) : Type 0 where
  pub test : Test
  pub is_test : IsNumber tests test_number test
  pub of_fault : IsTestOf c number target test

-- the same of a nonrobust verdict: its pair does not meet the robust conditions
pub record HasNonrobustTest (c : Circuit) (tests : List Test) (number : ℕ) (direction : Direction) (path : Route) (test_number : ℕ) : Type 0 where
  pub test : Test
  pub is_test : IsNumber tests test_number test
  pub of_fault : IsTestOf c number (target_of path direction kinds.Nonrobust) test
  pub not_robust : ¬ Meets c (target_of path direction kinds.Robust) test.pair

-- what a verdict on a fault asks of the run
abbrev pub IsVerdict : Circuit → Run → ℕ → Direction → Route → Verdict → Type 0
IsVerdict c run number direction path (Robust test) = HasTest c run.tests number (target_of path direction kinds.Robust) test
IsVerdict c run number direction path (Nonrobust test proof) =
    HasNonrobustTest c run.tests number direction path test × HasRobustProof run number direction path proof
IsVerdict c run number direction path (Untestable proof) =
    CitesRefutation (routes_of run) run.proofs (target_of path direction kinds.Nonrobust) proof
IsVerdict c run number direction path (Aborted robust nonrobust) =
    HasRobustProof run number direction path robust × HasNonrobustProof run number direction path nonrobust

-- A good run for so many paths and a budget of splits.
pub record IsGoodRun (c : Circuit) (delays : Delays) (count budget : ℕ) (run : Run) : Type 0 where
  pub first : AreFirst c delays count (routes_of run)
  pub lengths : All (λ listed. listed.length ≡ length_of delays listed.path) run.paths
  pub tests_cited : length run.tests ≡ count_by is_tested (verdicts_of run.paths)
  pub proofs_cited : length run.proofs ≡ greatest (map greatest_cited (verdicts_of run.paths))
  pub refutations : All (λ proof. proof.spent ≡ false → IsGoodRefutation c run.rules budget (routes_of run) proof) run.proofs
  pub spent : All (λ proof. proof.spent ≡ true → IsGoodSpent c run.rules budget (routes_of run) proof) run.proofs
  pub verdicts : (number : ℕ) (listed : ListedPath) (direction : Direction) (verdict : Verdict)
      → IsFault run number listed direction verdict → IsVerdict c run number direction listed.path verdict
  pub of_rules : All (λ test. IsOfRules c run.rules test.pair) run.tests
  pub expected : All (λ test. test.expected ≡ observed_values c test.pair.second) run.tests
