-- What is right of a run: by the item of which it is said, a count, a listed path, a proof or a fault by its number, and by the reason that
-- is told where it is not so. Each rule stands here once; Flaws.antt has which flaw is told (this project's own).
use Rattle.std.specs.Prelude.{◌≡◌, ⊤, ℕ, ◌+◌, ◌*◌, true, false, List, length, map, count_by}
use Rattle.pd_base.specs.Route.{Route}
use Rattle.pd_base.specs.Target.{target_of}
use Rattle.pd_base.specs.declared.test.Test.{Test}
use Rattle.pd_base.specs.declared.fault.Direction.{Direction}
use Rattle.pd_base.specs.declared.fault.Direction.TheVariants.{Rise, Fall}
use Rattle.pd_base.specs.declared.fault.Kind.TheVariants as kinds
use Rattle.pd_base.specs.declared.rules.Rules.{Rules}
use Rattle.netlist.specs.Circuit.{Circuit}
use Rattle.netlist.specs.Greatest.{greatest}
use Rattle.netlist.specs.LinkedPairs.{IsOfRules}
use Rattle.netlist.specs.Paths.{length_of}
use Rattle.netlist.specs.Values.{observed_values}
use Rattle.netlist.specs.Waves.{Delays}
use Rattle.runs.specs.declared.run.ListedPath.{ListedPath}
use Rattle.runs.specs.declared.run.Proof.{Proof}
use Rattle.runs.specs.declared.run.Run.{Run}
use Rattle.runs.specs.declared.run.Verdict.{Verdict}
use Rattle.runs.specs.declared.run.Verdict.TheVariants.{Robust, Nonrobust, Untestable, Aborted}
use Rattle.runs.specs.Verdicts.{verdicts_of}
use Rattle.good_runs.specs.Faults.{CitesRefutation, IsNumber, routes_of, verdict_for}
use Rattle.good_runs.specs.GoodRun.{HasNonrobustProof, HasNonrobustTest, HasRobustProof, HasTest, IsGoodRefutation, IsGoodSpent, greatest_cited, is_tested}
use Rattle.claim_check.specs.declared.claim.Reason.{Reason}
use Rattle.claim_check.specs.declared.claim.Reason.TheVariants.{WrongCount, WrongPath, WrongLength, BadRefutation, BadSpent, NotShared, BadTest, WrongExpected}

-- the count of this item is the one that is due: 1 is that of the listed paths, 2 that of the tests, 3 that of the proofs
pub record IsDueCount (first_count : ℕ) (run : Run) (item : ℕ) : Type 0 where
  pub paths : item ≡ 1 → length run.paths ≡ first_count
  pub tests : item ≡ 2 → length run.tests ≡ count_by is_tested (verdicts_of run.paths)
  pub proofs : item ≡ 3 → length run.proofs ≡ greatest (map greatest_cited (verdicts_of run.paths))

-- what is right of a count, where so many paths are to be listed
abbrev pub IsRightCount : ℕ → Run → ℕ → Reason → Type 0
IsRightCount first_count run item WrongCount = IsDueCount first_count run item
IsRightCount first_count run item reason = ⊤

-- of the listed path of this number: it is that of its place among the first ones, and has its length
abbrev pub IsRightPath : Delays → List Route → ℕ → ListedPath → Reason → Type 0
IsRightPath delays first number listed WrongPath = IsNumber first number listed.path
IsRightPath delays first number listed WrongLength = listed.length ≡ length_of delays listed.path
IsRightPath delays first number listed reason = ⊤

-- of a proof: it is a refutation, or a tree that spent the budget, whichever it says it is
abbrev pub IsRightProof : Circuit → Rules → ℕ → List Route → Proof → Reason → Type 0
IsRightProof c rules budget routes proof BadRefutation = proof.spent ≡ false → IsGoodRefutation c rules budget routes proof
IsRightProof c rules budget routes proof BadSpent = proof.spent ≡ true → IsGoodSpent c rules budget routes proof
IsRightProof c rules budget routes proof reason = ⊤

-- the verdict cites the proofs that it has to
abbrev pub CitesItsProofs : Run → ℕ → Direction → Route → Verdict → Type 0
CitesItsProofs run number direction path (Robust test) = ⊤
CitesItsProofs run number direction path (Nonrobust test proof) = HasRobustProof run number direction path proof
CitesItsProofs run number direction path (Untestable proof) =
    CitesRefutation (routes_of run) run.proofs (target_of path direction kinds.Nonrobust) proof
CitesItsProofs run number direction path (Aborted robust nonrobust) =
    HasRobustProof run number direction path robust × HasNonrobustProof run number direction path nonrobust

-- the verdict's test, if it has one, is a test of its fault
abbrev pub HasItsTest : Circuit → Run → ℕ → Direction → Route → Verdict → Type 0
HasItsTest c run number direction path (Robust test) = HasTest c run.tests number (target_of path direction kinds.Robust) test
HasItsTest c run number direction path (Nonrobust test proof) = HasNonrobustTest c run.tests number direction path test
HasItsTest c run number direction path (Untestable proof) = ⊤
HasItsTest c run number direction path (Aborted robust nonrobust) = ⊤

-- this is so of the test of this number
abbrev pub IsSoOfTest : (Test → Type 0) → List Test → ℕ → Type 0
IsSoOfTest IsSo tests number = (test : Test) → IsNumber tests number test → IsSo test

-- this is so of the verdict's test, if it has one
abbrev pub IsSoOfItsTest : (Test → Type 0) → List Test → Verdict → Type 0
IsSoOfItsTest IsSo tests (Robust test) = IsSoOfTest IsSo tests test
IsSoOfItsTest IsSo tests (Nonrobust test proof) = IsSoOfTest IsSo tests test
IsSoOfItsTest IsSo tests (Untestable proof) = ⊤
IsSoOfItsTest IsSo tests (Aborted robust nonrobust) = ⊤

-- the test's pair is one of the rules
abbrev pub HasPairOf : Circuit → Rules → Test → Type 0
HasPairOf c rules test = IsOfRules c rules test.pair

-- the test expects what the observed lines have under its second vector
abbrev pub ExpectsRight : Circuit → Test → Type 0
ExpectsRight c test = test.expected ≡ observed_values c test.pair.second

-- of the verdict on the fault of a path of this number: it is backed by its proofs and its test
abbrev pub IsRightVerdict : Circuit → Run → ℕ → Direction → Route → Verdict → Reason → Type 0
IsRightVerdict c run number direction path verdict NotShared = CitesItsProofs run number direction path verdict
IsRightVerdict c run number direction path verdict BadTest =
    HasItsTest c run number direction path verdict × IsSoOfItsTest (HasPairOf c run.rules) run.tests verdict
IsRightVerdict c run number direction path verdict WrongExpected = IsSoOfItsTest (ExpectsRight c) run.tests verdict
IsRightVerdict c run number direction path verdict reason = ⊤

-- the number of a fault: two for each listed path, that of the rising transition first
pub data IsFaultNumber (path_number : ℕ) : Direction → ℕ → Type 0 where
  rise : (item : ℕ) → item + 1 ≡ 2 * path_number → IsFaultNumber path_number Rise item
  fall : (item : ℕ) → item ≡ 2 * path_number → IsFaultNumber path_number Fall item

-- what is right of the listed path of this number, if there is one
abbrev pub IsRightPathAt : Delays → List Route → List ListedPath → ℕ → Reason → Type 0
IsRightPathAt delays first paths item reason =
    (listed : ListedPath) → IsNumber paths item listed → IsRightPath delays first item listed reason

-- of the proof of this number
abbrev pub IsRightProofAt : Circuit → ℕ → Run → ℕ → Reason → Type 0
IsRightProofAt c budget run item reason =
    (proof : Proof) → IsNumber run.proofs item proof → IsRightProof c run.rules budget (routes_of run) proof reason

-- of the verdict on the fault of this number
abbrev pub IsRightFaultAt : Circuit → Run → ℕ → Reason → Type 0
IsRightFaultAt c run item reason =
    (number : ℕ) (listed : ListedPath) (direction : Direction) → IsNumber run.paths number listed → IsFaultNumber number direction item
    → IsRightVerdict c run number direction listed.path (verdict_for listed direction) reason

-- what is right of each item of this number, where these are the first paths
pub record IsRightAt (c : Circuit) (delays : Delays) (budget : ℕ) (first : List Route) (run : Run) (item : ℕ) (reason : Reason) : Type 0 where
  pub count : IsRightCount (length first) run item reason
  pub path : IsRightPathAt delays first run.paths item reason
  pub proof : IsRightProofAt c budget run item reason
  pub fault : IsRightFaultAt c run item reason
