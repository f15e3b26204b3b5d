-- Blocks of tests, whose vectors are evaluated side by side, and what flags tell of the tests (this project's own).
use Rattle.std.specs.Prelude.{◌≡◌, ℕ, ◌-◌, ◌<◌, ◌≤◌, ◌↔◌, Bool, false, IsTrue, List, length, slice_get, slice_index_or, Some}
use Rattle.pd_base.specs.Pair.{Vectors}
use Rattle.pd_base.specs.declared.test.Test.{Test}
use Rattle.netlist.specs.Circuit.{Circuit, line_count}
use Rattle.netlist.specs.Values.{value}
use Rattle.logic_values.specs.Lanes.{IsInLane, lane_bit}
use Rattle.logic_values.specs.declared.blocks.PairVector.{PairVector}
use Rattle.logic_values.specs.declared.blocks.PairVector.TheVariants.{First, Second}

-- that vector of a pair
abbrev pub vector_of : PairVector → Vectors → List Bool
vector_of First pair = pair.first
vector_of Second pair = pair.second

-- the vector of each test between two places stands in the lane of its place among them
abbrev pub AreInLanes : PairVector → ℕ → ℕ → List Test → List ℕ → Type 0
AreInLanes which begin end tests words =
    (place : ℕ) (test : Test) → begin ≤ place → place < end → slice_get tests place ≡ Some test
    → IsInLane words (place - begin) (vector_of which test.pair)

-- in that lane stands the value of each line under the vector of the test
abbrev pub AreValuesIn : Circuit → PairVector → ℕ → ℕ → List Test → List ℕ → Type 0
AreValuesIn c which begin end tests words =
    (place : ℕ) (test : Test) → begin ≤ place → place < end → slice_get tests place ≡ Some test
    → (line : ℕ) → line < line_count c → lane_bit words (place - begin) line ≡ value c (vector_of which test.pair) line

-- of the tests those between two places got a flag, which is true exactly where this is so of the test in that lane
pub record AreFlaggedIn (IsSo : ℕ → Test → Type 0) (begin end : ℕ) (tests : List Test) (old new : List Bool) : Type 0 where
  pub inside : (place : ℕ) (test : Test) → begin ≤ place → place < end → slice_get tests place ≡ Some test
      → IsTrue (slice_index_or new place false) ↔ IsSo (place - begin) test
  pub before : (place : ℕ) → place < begin → slice_index_or new place false ≡ slice_index_or old place false

-- each test has a flag, which is true exactly where this is so of it
pub record AreFlags (IsSo : Test → Type 0) (tests : List Test) (flags : List Bool) : Type 0 where
  pub one_each : length flags ≡ length tests
  pub exactly : (place : ℕ) (test : Test) → slice_get tests place ≡ Some test → IsTrue (slice_index_or flags place false) ↔ IsSo test
