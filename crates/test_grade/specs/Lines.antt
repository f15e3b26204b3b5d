-- What lines are under pairs side by side: bit k of a line's word belongs to the pair in lane k (this project's own).
use Rattle.std.specs.Prelude.{◌≡◌, ℕ, ◌+◌, ◌-◌, ◌<◌, ◌≤◌, Bool, List, Option, Some, None, length, slice_get, if◌then◌else◌}
use Rattle.std.specs.Bool.{beq}
use Rattle.pd_base.specs.declared.test.Test.{Test}
use Rattle.pd_base.specs.Pair.{Vectors}
use Rattle.netlist.specs.Circuit.{Circuit, line_count, source_count}
use Rattle.netlist.specs.Steadiness.{is_steady}
use Rattle.netlist.specs.Values.{bit_of, value}
use Rattle.logic_values.specs.Lanes.{lane_bit}

-- the value at which a line is steady, if it is, where it ends at this one
abbrev pub known_in : Bool → Bool → Option Bool
known_in final steady = if steady then Some final else None

-- what the words tell of a line in this lane
abbrev pub known_lane : List ℕ → List ℕ → ℕ → ℕ → Option Bool
known_lane finals steadies lane line = known_in (lane_bit finals lane line) (lane_bit steadies lane line)

-- in this lane stands the value of each line under the vector
pub record HasFinals (c : Circuit) (vector : List Bool) (lane : ℕ) (finals : List ℕ) : Type 0 where
  pub each : (line : ℕ) → line < line_count c → lane_bit finals lane line ≡ value c vector line

-- in this lane stands for each line whether it is steady under the pair
pub record HasSteadies (c : Circuit) (pair : Vectors) (lane : ℕ) (steadies : List ℕ) : Type 0 where
  pub each : (line : ℕ) → line < line_count c → lane_bit steadies lane line ≡ is_steady c pair line

-- in this lane stands for each source whether both vectors have one bit there
pub record HasAgreements (c : Circuit) (pair : Vectors) (lane : ℕ) (steadies : List ℕ) : Type 0 where
  pub each : (source : ℕ) → source < source_count c
      → lane_bit steadies lane source ≡ beq (bit_of pair.first source) (bit_of pair.second source)

-- in this lane stands what the lines are under the pair: their final values, and whether they are steady
pub record AreUnder (c : Circuit) (pair : Vectors) (lane : ℕ) (finals steadies : List ℕ) : Type 0 where
  pub values : HasFinals c pair.second lane finals
  pub steady : HasSteadies c pair lane steadies

-- the words of all lines: their values under the second vectors, and whether they are steady
pub record LineWords : Type 0 where
  pub finals : List ℕ
  pub steadies : List ℕ

-- there are words for each line
pub record HasLineWords (c : Circuit) (words : LineWords) : Type 0 where
  pub of_finals : length words.finals ≡ line_count c
  pub of_steadies : length words.steadies ≡ line_count c

-- the words tell of the tests from a place on, up to 64 of them, each in the lane of its place among them
abbrev pub AreTestsUnder : Circuit → ℕ → List Test → LineWords → Type 0
AreTestsUnder c begin tests words =
    (place : ℕ) (test : Test) → begin ≤ place → place < begin + 64 → slice_get tests place ≡ Some test
    → AreUnder c test.pair (place - begin) words.finals words.steadies
