-- The places of the first walks from node 0 among all entries (this project's own).
use Rattle.std.specs.Prelude.{◌≡◌, ◌⊎◌, ℕ, ◌<◌, ◌≤◌, List, length, slice_index, Contains}
use Rattle.path_laws.specs.declared.entry.TheConstants.{NONE}
use Rattle.path_laws.specs.Graph.{Graph}
use Rattle.path_laws.specs.Entries.{KeepsEntries, IsEntryAt}
use Rattle.path_laws.specs.Lists.{Lists, HasAll, IsGoing}

-- node 0 got one more entry, at this place, or none where all walks are listed
pub record HasNext (g : Graph) (old new : Lists) (next : ℕ) : Type 0 where
  pub extends : KeepsEntries old.entries new.entries
  pub only : (place : ℕ) → IsEntryAt new.entries 0 place → (place < length old.entries) ⊎ (place ≡ next)
  pub next_one : (next ≡ NONE → ⊥) → IsEntryAt new.entries 0 next
  pub behind : length old.entries ≤ next
  pub none_left : next ≡ NONE → HasAll g new.entries 0

-- These are the places of all entries of node 0 but the next one. There is no next one where all walks are listed.
pub record AreRootPlaces (g : Graph) (st : Lists) (places : List ℕ) (next : ℕ) : Type 0 where
  pub going : IsGoing g st 0
  pub entries : (k : ℕ) → k < length places → IsEntryAt st.entries 0 (slice_index places k)
  pub rising : (j k : ℕ) → j < k → k < length places → slice_index places j < slice_index places k
  pub whole : (place : ℕ) → IsEntryAt st.entries 0 place → Contains places place ⊎ (place ≡ next)
  pub next_one : (next ≡ NONE → ⊥) → IsEntryAt st.entries 0 next
  pub next_last : (k : ℕ) → k < length places → slice_index places k < next
  pub none_left : next ≡ NONE → HasAll g st.entries 0

-- these are the places of the first walks, so many or all
pub record AreFirstPlaces (g : Graph) (st : Lists) (count : ℕ) (places : List ℕ) : Type 0 where
  pub next : ℕ
  pub listed : AreRootPlaces g st places next
  pub full : (length places ≡ count) ⊎ ((next ≡ NONE) × (length places < count))
