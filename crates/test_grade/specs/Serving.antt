-- Which tests serve which faults (static compaction of a test set for path delay faults).
use Rattle.std.specs.Prelude.{◌≡◌, ℕ, ◌+◌, ◌*◌, ◌-◌, ◌<◌, ◌≤◌, ◌↔◌, Bool, List, length, IsTrue, slice_get, Some}
use Rattle.pd_base.specs.declared.fault.Direction.{Direction}
use Rattle.pd_base.specs.declared.fault.Direction.TheVariants.{Rise, Fall}
use Rattle.pd_base.specs.declared.fault.Kind.{Kind}
use Rattle.pd_base.specs.declared.fault.Kind.TheVariants.{Robust as RobustTest, Nonrobust as NonrobustTest}
use Rattle.pd_base.specs.declared.test.Test.{Test}
use Rattle.pd_base.specs.Pair.{Vectors}
use Rattle.pd_base.specs.Target.{Target, target_of}
use Rattle.netlist.specs.Circuit.{Circuit}
use Rattle.netlist.specs.Conditions.{Meets}
use Rattle.logic_values.specs.Lanes.{lane_bit, IsInLane}
use Rattle.runs.specs.declared.run.ListedPath.{ListedPath}
use Rattle.runs.specs.declared.run.Verdict.{Verdict}
use Rattle.runs.specs.declared.run.Verdict.TheVariants.{Robust, Nonrobust, Untestable, Aborted}
use Rattle.runs.specs.Verdicts.{is_nonrobust}
use Rattle.test_grade.specs.Compact.{serves_in}
use Rattle.test_grade.specs.Lines.{AreUnder}
use Rattle.test_grade.specs.declared.kind_asked.KindAsked.{KindAsked}
use Rattle.test_grade.specs.declared.kind_asked.KindAsked.TheVariants.{Covering, Serving}

-- a fault of a report: the place of a listed path, and the transition at its source
pub record Fault : Type 0 where
  pub path : ℕ
  pub direction : Direction

-- the verdict of a listed path
abbrev pub verdict_at : ListedPath → Direction → Verdict
verdict_at listed Rise = listed.rise
verdict_at listed Fall = listed.fall

-- the test's pair meets the robust conditions for the listed path and direction
abbrev pub Covers : Circuit → ListedPath → Direction → Test → Type 0
Covers c listed direction test = Meets c (target_of listed.path direction RobustTest) test.pair

-- the test covers the fault, or the fault's verdict is nonrobust and the test's pair meets the nonrobust conditions
pub data Serves (c : Circuit) (paths : List ListedPath) (test : Test) (fault : Fault) : Type 0 where
  by_covering : (listed : ListedPath) → slice_get paths fault.path ≡ Some listed → Covers c listed fault.direction test
      → Serves c paths test fault
  by_nonrobust_test : (listed : ListedPath) → slice_get paths fault.path ≡ Some listed
      → IsTrue (is_nonrobust (verdict_at listed fault.direction))
      → Meets c (target_of listed.path fault.direction NonrobustTest) test.pair → Serves c paths test fault

-- the place of a fault among all: path by path, the rising transition first
abbrev pub fault_place : ℕ → Direction → ℕ
fault_place path Rise = 2 * path
fault_place path Fall = 2 * path + 1

-- the conditions that a test has to meet to serve a fault of this verdict
abbrev pub kind_due : Verdict → Kind
kind_due (Robust test) = RobustTest
kind_due (Nonrobust test proof) = NonrobustTest
kind_due (Untestable proof) = RobustTest
kind_due (Aborted robust nonrobust) = RobustTest

-- the conditions that are asked of a test for a fault of this verdict
abbrev pub kind_for : KindAsked → Verdict → Kind
kind_for Covering verdict = RobustTest
kind_for Serving verdict = kind_due verdict

-- what is asked of a test for the fault of a listed path
abbrev pub target_at : KindAsked → ListedPath → Direction → Target
target_at asked listed direction = target_of listed.path direction (kind_for asked (verdict_at listed direction))

-- a vector of each pair between two places stands in the lane of its place among them
abbrev pub StandInLanes : (Vectors → List Bool) → ℕ → ℕ → List Test → List ℕ → Type 0
StandInLanes vector begin end tests words =
    (place : ℕ) (test : Test) → begin ≤ place → place < end → slice_get tests place ≡ Some test
    → IsInLane words (place - begin) (vector test.pair)

-- the words from a place on, two for each of the first paths, tell of each lane whether its pair is what is asked for the path's faults
pub record AreGraded (asked : KindAsked) (c : Circuit) (paths : List ListedPath) (finals steadies : List ℕ) (base count : ℕ) (words : List ℕ) : Type 0 where
  pub each : (path : ℕ) (listed : ListedPath) (direction : Direction) (lane : ℕ) (pair : Vectors)
      → path < count → slice_get paths path ≡ Some listed → lane < 64 → AreUnder c pair lane finals steadies
      → IsTrue (lane_bit words lane (base + fault_place path direction)) ↔ Meets c (target_at asked listed direction) pair

-- the words tell of the first tests for which faults they are what is asked
pub record IsMatrix (asked : KindAsked) (c : Circuit) (paths : List ListedPath) (tests : List Test) (count : ℕ) (words : List ℕ) : Type 0 where
  pub each : (place : ℕ) (test : Test) (path : ℕ) (listed : ListedPath) (direction : Direction)
      → place < count → slice_get tests place ≡ Some test → slice_get paths path ≡ Some listed
      → IsTrue (serves_in words (2 * length paths) place (fault_place path direction)) ↔ Meets c (target_at asked listed direction) test.pair
