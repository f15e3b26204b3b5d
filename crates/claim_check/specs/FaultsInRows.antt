-- The faults of the listed path in a row, as they are judged, in words that are spoken inside this crate alone (this project's own).
use Rattle.std.specs.Prelude.{◌≡◌, ⊤, ℕ, ◌+◌, Bool, true, IsTrue, List, length, slice_get, Some}
use Rattle.pd_base.specs.Target.{target_of}
use Rattle.pd_base.specs.declared.fault.Direction.{Direction}
use Rattle.pd_base.specs.declared.fault.Kind.{Kind}
use Rattle.pd_base.specs.declared.fault.Kind.TheVariants as kinds
use Rattle.pd_base.specs.declared.rules.Rules.{Rules}
use Rattle.pd_base.specs.declared.test.Test.{Test}
use Rattle.netlist.specs.Circuit.{Circuit}
use Rattle.logic_values.specs.Blocks.{AreFlags}
use Rattle.runs.specs.declared.run.ListedPath.{ListedPath}
use Rattle.runs.specs.declared.run.Proof.{Proof}
use Rattle.runs.specs.declared.run.Run.{Run}
use Rattle.runs.specs.declared.run.Verdict.{Verdict}
use Rattle.runs.specs.declared.run.Verdict.TheVariants.{Robust, Nonrobust, Untestable, Aborted}
use Rattle.good_runs.specs.Faults.{IsAbout, IsNumber, routes_of, verdict_for}
use Rattle.pair_judging.specs.Judges.{IsJudgeOf}
use Rattle.claim_check.specs.declared.fault.Fault.{Fault}
use Rattle.claim_check.specs.declared.verdicts.Least.{Least}
use Rattle.claim_check.specs.declared.verdicts.TestJudge.{TestJudge}
use Rattle.claim_check.specs.Prefixes.{AreLeastRefutations, IsLeastRefutation}
use Rattle.claim_check.specs.Right.{ExpectsRight, HasPairOf}

-- the refutations of the least numbers that apply to the listed paths, for a direction
pub record AreLeastFor (run : Run) (direction : Direction) (least : Least) : Type 0 where
  pub robust_each : length least.robust.items ≡ length run.paths
  pub nonrobust_each : length least.nonrobust.items ≡ length run.paths
  pub robust : AreLeastRefutations (routes_of run) run.proofs direction kinds.Robust least.robust.items
  pub nonrobust : AreLeastRefutations (routes_of run) run.proofs direction kinds.Nonrobust least.nonrobust.items

-- the verdict's flag, if it has a test that has one, is true
abbrev pub HasTrueFlag : List Bool → Verdict → Type 0
HasTrueFlag flags (Robust test) = (flag : Bool) → IsNumber flags test flag → IsTrue flag
HasTrueFlag flags (Nonrobust test proof) = (flag : Bool) → IsNumber flags test flag → IsTrue flag
HasTrueFlag flags (Untestable proof) = ⊤
HasTrueFlag flags (Aborted robust nonrobust) = ⊤

-- the tests of a run under these rules are judged by this
pub record JudgesTests (c : Circuit) (rules : Rules) (tests : List Test) (judge : TestJudge) : Type 0 where
  pub pairs : IsJudgeOf 4 c judge.pairs
  pub of_rules : AreFlags (HasPairOf c rules) tests judge.of_rules.items
  pub expected : AreFlags (ExpectsRight c) tests judge.expected.items

-- the fault of the listed path in a row, for a direction, with the refutations of the least numbers that apply
pub record IsFaultInRow (run : Run) (row : ℕ) (direction : Direction) (fault : Fault) : Type 0 where
  pub listed : ListedPath
  pub is_listed : slice_get run.paths row ≡ Some listed
  pub is_number : fault.number ≡ row + 1
  pub is_path : fault.path.now ≡ listed.path
  pub is_direction : fault.direction ≡ direction
  pub is_verdict : fault.verdict ≡ verdict_for listed direction
  pub least_robust : IsLeastRefutation (routes_of run) run.proofs (target_of fault.path.now fault.direction kinds.Robust) fault.robust
  pub least_nonrobust : IsLeastRefutation (routes_of run) run.proofs (target_of fault.path.now fault.direction kinds.Nonrobust) fault.nonrobust

-- a proof says that the budget was spent on a listed path of this number
pub record SaysSpentOn (kind : Kind) (direction : Direction) (path_number : ℕ) (proof : Proof) : Type 0 where
  pub spent : proof.spent ≡ true
  pub is_about : IsAbout kind direction proof
  pub of_path : proof.path ≡ path_number
