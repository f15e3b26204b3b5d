-- Tests that are left out because other tests serve the faults that they serve (static compaction of a test set). Tests and faults are
-- places from 0 here (this project's own).
use Rattle.std.specs.Prelude.{◌≡◌, ℕ, zero, suc, ◌+◌, ◌*◌, ◌/◌, ◌%◌, ◌<◌, ◌≤◌, Bool, false, ◌&&◌, if◌then◌else◌, IsTrue, List, length, slice_index_or}
use Rattle.logic_values.specs.Lanes.{lane_bit}

-- whether a test serves a fault, where each block of 64 tests has a word for each fault, and each of its tests a lane
abbrev pub serves_in : List ℕ → ℕ → ℕ → ℕ → Bool
serves_in words faults test fault = lane_bit words (test % 64) (test / 64 * faults + fault)

-- there are words for all blocks of so many tests
abbrev pub HasWords : List ℕ → ℕ → ℕ → Type 0
HasWords words tests faults =
    (test fault : ℕ) → test < tests → fault < faults → test / 64 * faults + fault < length words

-- whether a test is kept
abbrev pub is_kept : List Bool → ℕ → Bool
is_kept kept test = slice_index_or kept test false

-- some kept test serves the fault
pub record IsServed (serves : ℕ → ℕ → Bool) (kept : List Bool) (fault : ℕ) : Type 0 where
  pub test : ℕ
  pub is_kept : IsTrue (is_kept kept test)
  pub serves_it : IsTrue (serves test fault)

-- the test serves a fault that no other kept test serves
pub record IsNeeded (faults : ℕ) (serves : ℕ → ℕ → Bool) (kept : List Bool) (test : ℕ) : Type 0 where
  pub fault : ℕ
  pub within : fault < faults
  pub serves_it : IsTrue (serves test fault)
  pub alone : (other : ℕ) → IsTrue (is_kept kept other) → IsTrue (serves other fault) → other ≡ test

-- each fault that is served is served by a kept test, and each kept test is needed
pub record IsCompact (tests faults : ℕ) (serves : ℕ → ℕ → Bool) (kept : List Bool) : Type 0 where
  pub one_each : length kept ≡ tests
  pub served : (test fault : ℕ) → test < tests → fault < faults → IsTrue (serves test fault) → IsServed serves kept fault
  pub needed : (test : ℕ) → IsTrue (is_kept kept test) → IsNeeded faults serves kept test

-- of how many places below this one it holds
abbrev pub count_below : (ℕ → Bool) → ℕ → ℕ
count_below holds zero = 0
count_below holds (suc places) = count_below holds places + (if holds places then 1 else 0)

-- the count of a fault
abbrev pub count_of : List ℕ → ℕ → ℕ
count_of counts fault = slice_index_or counts fault 0

-- how many kept tests serve the fault
abbrev pub servers : ℕ → (ℕ → ℕ → Bool) → List Bool → ℕ → ℕ
servers tests serves kept fault = count_below (λ test. is_kept kept test && serves test fault) tests

-- each fault has as its count how many kept tests serve it
pub record AreCounted (tests : ℕ) (serves : ℕ → ℕ → Bool) (kept : List Bool) (counts : List ℕ) : Type 0 where
  pub one_each : length kept ≡ tests
  pub each : (fault : ℕ) → fault < length counts → count_of counts fault ≡ servers tests serves kept fault

-- a fault that this test alone serves, by the counts
pub record IsAlone (serves : ℕ → ℕ → Bool) (counts : List ℕ) (test fault : ℕ) : Type 0 where
  pub within : fault < length counts
  pub serves_it : IsTrue (serves test fault)
  pub few : count_of counts fault < 2

-- one test was tried: it is left out where no fault needs it
pub record IsTried (serves : ℕ → ℕ → Bool) (test : ℕ) (old_kept : List Bool) (old : List ℕ) (kept : List Bool) (counts : List ℕ) : Type 0 where
  pub still_served : (fault : ℕ) → fault < length old → 1 ≤ count_of old fault → 1 ≤ count_of counts fault
  pub still_alone : (fault : ℕ) → fault < length old → count_of old fault < 2 → count_of counts fault ≡ count_of old fault
  pub only_fewer : (other : ℕ) → IsTrue (is_kept kept other) → IsTrue (is_kept old_kept other)
  pub needed : IsTrue (is_kept kept test) → (fault : ℕ) × IsAlone serves counts test fault
