-- A list of tests from which no test can be left out (static compaction of a test set), over any tests and faults.
use Rattle.std.specs.Prelude.{◌≡◌, ℕ, List, [], ◌∷◌, slice_get, Some, Contains}

-- some of the items left out, in order
pub data LeavesOut {X : Type 0} : List X → List X → Type 0 where
  nothing : LeavesOut [] []
  stays : {x : X} {items kept : List X} → LeavesOut items kept → LeavesOut (x ∷ items) (x ∷ kept)
  goes : {x : X} {items kept : List X} → LeavesOut items kept → LeavesOut (x ∷ items) kept

module _ {X F : Type 0} (serves : X → F → Type 0) where
  -- some test of these serves the fault
  pub record IsServedAmong (kept : List X) (fault : F) : Type 0 where
    pub test : X
    pub among : Contains kept test
    pub serves_it : serves test fault

  -- the test at this place serves a fault that no test at another place does
  pub record IsNeededAt (kept : List X) (place : ℕ) (test : X) : Type 0 where
    pub fault : F
    pub serves_it : serves test fault
    pub alone : (other : ℕ) (item : X) → slice_get kept other ≡ Some item → serves item fault → other ≡ place

  -- Kept is tests with some left out, in order. Each fault served by a test of tests is served by one of kept, and for each test of kept
  -- some fault is served by it and by no other place of kept.
  pub record IsCompacted (tests kept : List X) : Type 0 where
    pub in_order : LeavesOut tests kept
    pub served : (fault : F) (test : X) → Contains tests test → serves test fault → IsServedAmong kept fault
    pub needed : (place : ℕ) (test : X) → slice_get kept place ≡ Some test → IsNeededAt kept place test
