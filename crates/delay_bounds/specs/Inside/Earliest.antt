-- The earliest passes, found row by row and test by test (this project's own).
use Rattle.std.specs.Prelude.{◌≡◌, ℕ, ◌+◌, ◌<◌, min, IsTrue, List, length, Option, None, Some, slice_index_or}
use Rattle.test_grade.specs.Compact.{serves_in}
use Rattle.delay_bounds.specs.Bounds.{PassesAt}
use Rattle.delay_bounds.specs.Least.{IsLeast}
use Rattle.delay_bounds.specs.declared.log_row.LogRow.{LogRow}

-- the lesser of two times, of which there may be none
abbrev pub earlier : Option ℕ → Option ℕ → Option ℕ
earlier None second = second
earlier (Some time) None = Some time
earlier (Some time) (Some other) = Some (min time other)

-- one of so many first rows has the test of this number pass at this time
pub record PassesEarly (log : List LogRow) (count number time : ℕ) : Type 0 where
  pub passes : PassesAt log number time
  pub early : passes.place < count

-- the time of a test
abbrev pub time_of : List (Option ℕ) → ℕ → Option ℕ
time_of times place = slice_index_or times place None

-- each test has its earliest pass in so many first rows
pub record AreEarliest (log : List LogRow) (count : ℕ) (times : List (Option ℕ)) : Type 0 where
  pub each : (place : ℕ) → place < length times → IsLeast (PassesEarly log count (place + 1)) (time_of times place)

-- one of so many first tests serves the fault, and this is its time
pub record IsTold (words : List ℕ) (faults fault : ℕ) (times : List (Option ℕ)) (count time : ℕ) : Type 0 where
  pub place : ℕ
  pub early : place < count
  pub serves_it : IsTrue (serves_in words faults place fault)
  pub is_its : time_of times place ≡ Some time

-- each of so many first faults has the least time of the tests that serve it
pub record AreLeast (words : List ℕ) (faults : ℕ) (times : List (Option ℕ)) (count : ℕ) (bounds : List (Option ℕ)) : Type 0 where
  pub one_each : length bounds ≡ count
  pub each : (fault : ℕ) → fault < count → IsLeast (IsTold words faults fault times (length times)) (slice_index_or bounds fault None)
