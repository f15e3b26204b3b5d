-- Walks kept as entries that share their ends: an entry stops, or has an arc and the place of an earlier entry that goes on
-- from there (this project's own).
use Rattle.std.specs.Prelude.{◌≡◌, ◌==◌, ℕ, ◌<◌, ◌≤◌, List, [], ◌∷◌, ◌++◌, length, map, slice_index_or, if◌then◌else◌}
use Rattle.std.specs.List.{fold}
use Rattle.path_laws.specs.declared.entry.WalkEntry.{WalkEntry}
use Rattle.path_laws.specs.declared.entry.TheConstants.{NONE}

-- the walk of an entry, where those of the entries before it are known
abbrev pub walk_of : List (List ℕ) → WalkEntry → List ℕ
walk_of walks entry = if entry.arc == NONE then [] else entry.arc ∷ slice_index_or walks entry.tail []

abbrev pub with_walk : List (List ℕ) → WalkEntry → List (List ℕ)
with_walk walks entry = walks ++ walk_of walks entry ∷ []

-- the walks of all entries
abbrev pub walks_of : List WalkEntry → List (List ℕ)
walks_of entries = fold with_walk [] entries

-- the walk of the entry at a place
abbrev pub walk_at : List WalkEntry → ℕ → List ℕ
walk_at entries place = slice_index_or (walks_of entries) place []

-- the walks of the entries at these places
abbrev pub walks_at : List WalkEntry → List ℕ → List (List ℕ)
walks_at entries places = map (walk_at entries) places

-- what stands past the end
abbrev pub no_entry : WalkEntry
no_entry = record { node = 0; length = 0; arc = 0; tail = 0 }

abbrev pub entry_at : List WalkEntry → ℕ → WalkEntry
entry_at entries place = slice_index_or entries place no_entry

-- at this place is an entry of the node
pub record IsEntryAt (entries : List WalkEntry) (node place : ℕ) : Type 0 where
  pub within : place < length entries
  pub own : (entry_at entries place).node ≡ node

-- an entry of the node has this walk
pub record HasEntry (entries : List WalkEntry) (node : ℕ) (walk : List ℕ) : Type 0 where
  pub place : ℕ
  pub entry : IsEntryAt entries node place
  pub has : walk_at entries place ≡ walk

-- the entries that were there are still there, at their places and with their walks
pub record KeepsEntries (entries more : List WalkEntry) : Type 0 where
  pub longer : length entries ≤ length more
  pub same : (place : ℕ) → place < length entries → entry_at more place ≡ entry_at entries place
  pub walks : (place : ℕ) → place < length entries → walk_at more place ≡ walk_at entries place

-- no entry of the node came to them
abbrev pub KeepsNode : List WalkEntry → List WalkEntry → ℕ → Type 0
KeepsNode entries more node = (place : ℕ) → IsEntryAt more node place → place < length entries

-- entries go on as entries that stand earlier
abbrev pub AreTailsEarlier : List WalkEntry → Type 0
AreTailsEarlier entries = (place : ℕ) → place < length entries → ((entry_at entries place).arc ≡ NONE → ⊥)
    → (entry_at entries place).tail < place
