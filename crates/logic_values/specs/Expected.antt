-- The bits that tests expect (this project's own).
use Rattle.std.specs.Prelude.{◌≡◌, ℕ, ◌-◌, ◌<◌, ◌≤◌, Bool, List, map, slice_get, slice_index_or, Some}
use Rattle.pd_base.specs.declared.ids.LineId.{LineId}
use Rattle.pd_base.specs.declared.test.Test.{Test}
use Rattle.netlist.specs.Circuit.{Circuit}
use Rattle.netlist.specs.Values.{observed_values}
use Rattle.logic_values.specs.Blocks.{AreFlaggedIn, AreFlags}
use Rattle.logic_values.specs.Lanes.{lane_of}

-- the test, expecting what the observed lines have under its second vector
abbrev pub expecting : Circuit → Test → Test
expecting c test = record test { expected = observed_values c test.pair.second }

-- of the tests those between two places got the bits that they expect
pub record AreFilled (c : Circuit) (begin end : ℕ) (old new : List Test) : Type 0 where
  pub inside : (place : ℕ) (test : Test) → begin ≤ place → place < end → slice_get old place ≡ Some test
      → slice_get new place ≡ Some (expecting c test)
  pub before : (place : ℕ) → place < begin → slice_get new place ≡ slice_get old place
  pub behind : (place : ℕ) → end ≤ place → slice_get new place ≡ slice_get old place

-- the word of a line
abbrev pub word_of : List ℕ → LineId → ℕ
word_of words line = slice_index_or words line.0 0

-- in the lane of the place of each test between two places stands what the observed lines have under its second vector
abbrev pub AreObservedIn : Circuit → ℕ → ℕ → List Test → List ℕ → Type 0
AreObservedIn c begin end tests observed =
    (place : ℕ) (test : Test) → begin ≤ place → place < end → slice_get tests place ≡ Some test
    → map (λ word. lane_of word (place - begin)) observed ≡ observed_values c test.pair.second

-- of the tests those between two places got a flag, which is true exactly where the test expects the bits in that lane
abbrev pub AreCompared : ℕ → ℕ → List Test → List ℕ → List Bool → List Bool → Type 0
AreCompared begin end tests observed old new =
    AreFlaggedIn (λ lane test. test.expected ≡ map (λ word. lane_of word lane) observed) begin end tests old new

-- each test has a flag, which is true exactly where it expects what the observed lines have under its second vector
abbrev pub TellsExpected : Circuit → List Test → List Bool → Type 0
TellsExpected c tests flags = AreFlags (λ test. test.expected ≡ observed_values c test.pair.second) tests flags
