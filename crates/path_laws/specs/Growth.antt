-- How the lists grow by a walk (this project's own).
use Rattle.std.specs.Prelude.{◌≡◌, ◌⊎◌, ℕ, ◌<◌, ◌≤◌, Bool, false, List, length, slice_index, IsTrue}
use Rattle.path_laws.specs.declared.entry.WalkEntry.{WalkEntry}
use Rattle.path_laws.specs.declared.entry.TheConstants.{NONE}
use Rattle.path_laws.specs.Graph.{Graph, IsArcOf, arc_end, may_stop, node_count}
use Rattle.path_laws.specs.Walks.{Leads, walk_length}
use Rattle.path_laws.specs.Order.{IsWalkBefore}
use Rattle.path_laws.specs.Entries.{KeepsEntries, IsEntryAt, HasEntry, KeepsNode, entry_at, walk_of, walks_of}
use Rattle.path_laws.specs.Lists.{Lists, AllReady, HasAll, HasFirst, IsGoing, IsLinked, IsListedUpTo, IsStarted, IsLastArc, is_free, last_place}

-- where the walk by which the node's last one goes on has no next one, all walks from there are listed
abbrev pub IsFed : Graph → Lists → ℕ → Type 0
IsFed g st node = (arc : ℕ) → IsLastArc g st node arc
    → slice_index st.nexts (entry_at st.entries (last_place st node)).tail ≡ NONE → HasAll g st.entries (arc_end g arc)

-- the node's last walk took this arc, and the walk by which it goes on has no next one so far
pub record IsWaiting (g : Graph) (st : Lists) (node arc : ℕ) : Type 0 where
  pub taken : IsLastArc g st node arc
  pub no_next : slice_index st.nexts (entry_at st.entries (last_place st node)).tail ≡ NONE

-- all arcs of the node are ready now, and nothing else changed
pub record HasHeads (g : Graph) (old new : Lists) (node : ℕ) : Type 0 where
  pub entries : new.entries ≡ old.entries
  pub nexts : new.nexts ≡ old.nexts
  pub lasts : new.lasts ≡ old.lasts
  pub frees : new.free ≡ old.free
  pub linked : IsLinked g new
  pub others : (other : ℕ) → (other ≡ node → ⊥) → IsStarted g old other → IsStarted g new other
  pub started : IsStarted g new node
  pub ready : AllReady g new node

-- the entry's walk is the first one from the node that isn't listed
pub record IsNextEntry (g : Graph) (st : Lists) (node : ℕ) (entry : WalkEntry) : Type 0 where
  pub own : entry.node ≡ node
  pub leads : Leads g node (walk_of (walks_of st.entries) entry)
  pub long : entry.length ≡ walk_length g (walk_of (walks_of st.entries) entry)
  pub fresh : HasEntry st.entries node (walk_of (walks_of st.entries) entry) → ⊥
  pub least : (other : List ℕ) → Leads g node other
      → HasEntry st.entries node other
      ⊎ ((other ≡ walk_of (walks_of st.entries) entry) ⊎ IsWalkBefore g (walk_of (walks_of st.entries) entry) other)
  pub arc_own : (entry.arc ≡ NONE → ⊥) → IsArcOf g node entry.arc
  pub tail : (entry.arc ≡ NONE → ⊥) → IsListedUpTo g st.entries node entry.arc entry.tail

-- The node took its next walk, where it had one left, and is started; nothing else changed.
pub record TakesNext (g : Graph) (old new : Lists) (node : ℕ) (took : Bool) : Type 0 where
  pub linked : IsLinked g new
  pub firsts : (other : ℕ) → other < node_count g → HasFirst g new.entries other
  pub started : IsStarted g new node
  pub others : (other : ℕ) → (other ≡ node → ⊥) → IsStarted g old other → IsStarted g new other
  pub extends : KeepsEntries old.entries new.entries
  pub keeps : (other : ℕ) → (other ≡ node → ⊥) → KeepsNode old.entries new.entries other
  pub same_lasts : (other : ℕ) → (other ≡ node → ⊥) → last_place new other ≡ last_place old other
  pub same_frees : (other : ℕ) → (other ≡ node → ⊥) → is_free new other ≡ is_free old other
  pub only : (place : ℕ) → IsEntryAt new.entries node place
      → (place < length old.entries) ⊎ (IsTrue took × (place ≡ last_place new node))
  pub one_more : IsTrue took → IsEntryAt new.entries node (last_place new node) × (length old.entries ≤ last_place new node)
  pub all_listed : took ≡ false → HasAll g new.entries node

-- The node got its next walk, where it had one left; nodes before it got none.
pub record HasGrown (g : Graph) (old new : Lists) (node : ℕ) (took : Bool) : Type 0 where
  pub extends : KeepsEntries old.entries new.entries
  pub keeps : (other : ℕ) → other < node → KeepsNode old.entries new.entries other
  pub same_lasts : (other : ℕ) → other < node → last_place new other ≡ last_place old other
  pub only : (place : ℕ) → IsEntryAt new.entries node place
      → (place < length old.entries) ⊎ (IsTrue took × (place ≡ last_place new node))
  pub one_more : IsTrue took → IsEntryAt new.entries node (last_place new node) × (length old.entries ≤ last_place new node)
  pub all_listed : took ≡ false → HasAll g new.entries node

-- The nodes from this one on have their first walk, where they have one, and the nodes before it nothing yet.
pub record IsBegun (g : Graph) (st : Lists) (from : ℕ) : Type 0 where
  pub going : IsGoing g st from
  pub none_before : (node place : ℕ) → node < from → IsEntryAt st.entries node place → ⊥
  pub free_before : (node : ℕ) → node < from → is_free st node ≡ may_stop g node
  pub one_each : (node place : ℕ) → node < node_count g → IsEntryAt st.entries node place → place ≡ last_place st node
  pub all_of_none : (node : ℕ) → from ≤ node → node < node_count g → last_place st node ≡ NONE → HasAll g st.entries node
