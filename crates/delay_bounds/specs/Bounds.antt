-- Bounds of the delays of paths from a tester's log: a test that covers a fault and passes at some time shows that the path takes no
-- longer than that time (this project's own).
use Rattle.std.specs.Prelude.{◌≡◌, ℕ, pos, ◌+◌, ◌*◌, ◌≤◌, IsTrue, List, length, Option, None, Some, Contains, slice_get, slice_index_or}
use Rattle.pd_base.specs.declared.fault.Direction.{Direction}
use Rattle.pd_base.specs.declared.ids.LineId.{LineId}
use Rattle.pd_base.specs.declared.test.Test.{Test}
use Rattle.pd_base.specs.Route.{Route}
use Rattle.netlist.specs.Circuit.{Circuit, observed_lines}
use Rattle.netlist.specs.Paths.{length_of}
use Rattle.netlist.specs.Values.{value}
use Rattle.netlist.specs.Waves.{Delays, wave_of}
use Rattle.runs.specs.declared.run.ListedPath.{ListedPath}
use Rattle.test_grade.specs.Serving.{Covers, fault_place}
use Rattle.delay_bounds.specs.Least.{IsLeast}
use Rattle.delay_bounds.specs.declared.log_row.LogRow.{LogRow}

-- the row names one of so many tests
pub record NamesTest (tests : ℕ) (row : LogRow) : Type 0 where
  pub positive : 1 ≤ row.test
  pub within : row.test ≤ tests

-- some row of the log has the test of this number pass at this time
pub record PassesAt (log : List LogRow) (number time : ℕ) : Type 0 where
  pub place : ℕ
  pub row : LogRow
  pub at : slice_get log place ≡ Some row
  pub passes : IsTrue row.pass
  pub of_test : row.test ≡ number
  pub at_time : row.time ≡ time

-- Under these delays the log could have come about: where a row has a test pass, each observed line has at the row's time its value under
-- the test's second vector. A row that fails says nothing.
pub record Agrees (c : Circuit) (tests : List Test) (log : List LogRow) (delays : Delays) : Type 0 where
  pub each : (place : ℕ) (test : Test) (time : ℕ) (line : LineId) → slice_get tests place ≡ Some test → PassesAt log (place + 1) time
      → Contains (observed_lines c) line → wave_of c test.pair delays line.0 (pos time) ≡ value c test.pair.second line.0

-- under no delays that agree with the log is the path longer than this
abbrev pub BoundsLength : Circuit → List Test → List LogRow → Route → ℕ → Type 0
BoundsLength c tests log path time = (delays : Delays) → Agrees c tests log delays → length_of delays path ≤ time

-- a test that covers the fault passes at this time
pub record IsShown (c : Circuit) (tests : List Test) (log : List LogRow) (listed : ListedPath) (direction : Direction) (time : ℕ)
    : Type 0 where
  pub place : ℕ
  pub test : Test
  pub at : slice_get tests place ≡ Some test
  pub covers : Covers c listed direction test
  pub passes : PassesAt log (place + 1) time

-- The bound of a fault: the least time at which a test that covers it passes, and none where none does. The path is no longer than the
-- bound, whatever the delays are that agree with the log.
pub record IsBound (c : Circuit) (tests : List Test) (log : List LogRow) (listed : ListedPath) (direction : Direction) (bound : Option ℕ)
    : Type 0 where
  pub least : IsLeast (IsShown c tests log listed direction) bound
  pub holds : (time : ℕ) → bound ≡ Some time → BoundsLength c tests log listed.path time

-- the bounds of all faults, path by path and the rising transition first
pub record AreBounds (c : Circuit) (tests : List Test) (log : List LogRow) (paths : List ListedPath) (bounds : List (Option ℕ))
    : Type 0 where
  pub one_each : length bounds ≡ 2 * length paths
  pub each : (place : ℕ) (listed : ListedPath) (direction : Direction) → slice_get paths place ≡ Some listed
      → IsBound c tests log listed direction (slice_index_or bounds (fault_place place direction) None)
