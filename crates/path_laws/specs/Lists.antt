-- How the walks of all nodes are found: each node has a list of its first walks, and each of its arcs a head, the first walk
-- of the arc's end that isn't listed at the node behind this arc (this project's own).
use Rattle.std.specs.Prelude.{◌≡◌, ◌==◌, ◌⊎◌, ℕ, ◌+◌, ◌<◌, ◌≤◌, Bool, false, List, [], ◌∷◌, ◌++◌, length, replicate, slice_index, slice_index_or, slice_set, IsTrue, if◌then◌else◌}
use Rattle.path_laws.specs.declared.entry.WalkEntry.{WalkEntry}
use Rattle.path_laws.specs.declared.entry.TheConstants.{NONE}
use Rattle.path_laws.specs.Graph.{Graph, IsArcOf, arc_count, delay_of, arc_end, may_stop, node_count}
use Rattle.path_laws.specs.Walks.{Leads, walk_length}
use Rattle.path_laws.specs.Order.{IsWalkBefore}
use Rattle.path_laws.specs.Entries.{AreTailsEarlier, IsEntryAt, HasEntry, entry_at, walk_at}

-- The entries of all nodes; by entry the next one of its node; by node its last entry; by arc its head, and one more than the
-- length of the walk through it, or 0 where there is no head; by node whether it may still stop.
pub record Lists : Type 0 where
  pub entries : List WalkEntry
  pub nexts : List ℕ
  pub lasts : List ℕ
  pub heads : List ℕ
  pub keys : List ℕ
  pub free : List Bool

abbrev pub last_place : Lists → ℕ → ℕ
last_place st node = slice_index st.lasts node

abbrev pub head_of : Lists → ℕ → ℕ
head_of st arc = slice_index st.heads arc

abbrev pub key_of : Lists → ℕ → ℕ
key_of st arc = slice_index st.keys arc

abbrev pub is_free : Lists → ℕ → Bool
is_free st node = slice_index_or st.free node false

-- no node has an entry, and no arc a head
abbrev pub empty_lists : Graph → Lists
empty_lists g = record {
  entries = [];
  nexts = [];
  lasts = replicate (node_count g) NONE;
  heads = replicate (arc_count g) NONE;
  keys = replicate (arc_count g) 0;
  free = g.stops;
}

-- one entry more, the last one of its node
abbrev pub with_entry : Lists → WalkEntry → Lists
with_entry st entry = record {
  entries = st.entries ++ entry ∷ [];
  nexts = slice_set st.nexts (last_place st entry.node) (length st.entries) ++ NONE ∷ [];
  lasts = slice_set st.lasts entry.node (length st.entries);
  heads = st.heads;
  keys = st.keys;
  free = if entry.arc == NONE then slice_set st.free entry.node false else st.free;
}

-- the key of an arc with this head
abbrev pub key_at : Graph → List WalkEntry → ℕ → ℕ → ℕ
key_at g entries arc head = if head == NONE then 0 else delay_of g arc + (entry_at entries head).length + 1

-- the arc gets this head
abbrev pub with_head : Graph → Lists → ℕ → ℕ → Lists
with_head g st arc head = record {
  entries = st.entries;
  nexts = st.nexts;
  lasts = st.lasts;
  heads = slice_set st.heads arc head;
  keys = slice_set st.keys arc (key_at g st.entries arc head);
  free = st.free;
}

-- all walks from the node are listed
abbrev pub HasAll : Graph → List WalkEntry → ℕ → Type 0
HasAll g entries node = (walk : List ℕ) → Leads g node walk → HasEntry entries node walk

-- all walks listed at the node stand before this one
abbrev pub AllBefore : Graph → List WalkEntry → ℕ → List ℕ → Type 0
AllBefore g entries node walk = (place : ℕ) → IsEntryAt entries node place → IsWalkBefore g (walk_at entries place) walk

-- the entries of the node are its first walks, in their order
pub record HasFirst (g : Graph) (entries : List WalkEntry) (node : ℕ) : Type 0 where
  pub leads : (place : ℕ) → IsEntryAt entries node place → Leads g node (walk_at entries place)
  pub lengths : (place : ℕ) → IsEntryAt entries node place
      → (entry_at entries place).length ≡ walk_length g (walk_at entries place)
  pub rising : (i j : ℕ) → i < j → IsEntryAt entries node i → IsEntryAt entries node j
      → IsWalkBefore g (walk_at entries i) (walk_at entries j)
  pub rest_after : (walk : List ℕ) → Leads g node walk → HasEntry entries node walk ⊎ AllBefore g entries node walk

-- all walks through the arc are listed at its node
abbrev pub HasAllThrough : Graph → List WalkEntry → ℕ → ℕ → Type 0
HasAllThrough g entries node arc = (walk : List ℕ) → Leads g (arc_end g arc) walk → HasEntry entries node (arc ∷ walk)

-- all walks through the arc that go on before the walk of this entry are listed at its node
pub record IsListedUpTo (g : Graph) (entries : List WalkEntry) (node arc place : ℕ) : Type 0 where
  pub on_end : IsEntryAt entries (arc_end g arc) place
  pub below : (walk : List ℕ) → Leads g (arc_end g arc) walk → IsWalkBefore g walk (walk_at entries place)
      → HasEntry entries node (arc ∷ walk)

-- what is known of an arc before its node takes its next walk: all walks through it are listed, or its head is right
pub data IsReady (g : Graph) (st : Lists) (node arc : ℕ) : Type 0 where
  spent : key_of st arc ≡ 0 → HasAllThrough g st.entries node arc → IsReady g st node arc
  headed : IsListedUpTo g st.entries node arc (head_of st arc)
      → (HasEntry st.entries node (arc ∷ walk_at st.entries (head_of st arc)) → ⊥)
      → key_of st arc ≡ walk_length g (arc ∷ walk_at st.entries (head_of st arc)) + 1
      → IsReady g st node arc

-- the last walk of the node took the arc
pub record IsLastArc (g : Graph) (st : Lists) (node arc : ℕ) : Type 0 where
  pub last : IsEntryAt st.entries node (last_place st node)
  pub by_arc : (entry_at st.entries (last_place st node)).arc ≡ arc
  pub own : IsArcOf g node arc
  pub tail : IsListedUpTo g st.entries node arc (entry_at st.entries (last_place st node)).tail
  pub has : walk_at st.entries (last_place st node) ≡ arc ∷ walk_at st.entries (entry_at st.entries (last_place st node)).tail

-- the node is free where it may stop and that isn't listed
pub record IsFreeRight (g : Graph) (st : Lists) (node : ℕ) : Type 0 where
  pub may : IsTrue (is_free st node) → IsTrue (may_stop g node)
  pub fresh : IsTrue (is_free st node) → HasEntry st.entries node [] → ⊥
  pub kept : IsTrue (may_stop g node) → HasEntry st.entries node [] ⊎ IsTrue (is_free st node)

-- all arcs of the node are ready
abbrev pub AllReady : Graph → Lists → ℕ → Type 0
AllReady g st node = (arc : ℕ) → IsArcOf g node arc → IsReady g st node arc

-- all arcs of the node are ready but the one that its last walk took
pub record IsStarted (g : Graph) (st : Lists) (node : ℕ) : Type 0 where
  pub free : IsFreeRight g st node
  pub arcs : (arc : ℕ) → IsArcOf g node arc → IsReady g st node arc ⊎ IsLastArc g st node arc
  pub taken : IsEntryAt st.entries node (last_place st node)
      → ((entry_at st.entries (last_place st node)).arc ≡ NONE → ⊥)
      → IsLastArc g st node (entry_at st.entries (last_place st node)).arc

-- the entry has no other of its node behind it, or this is the first one there
pub data IsNextPlace (entries : List WalkEntry) (place next : ℕ) : Type 0 where
  no_next : next ≡ NONE
      → ((later : ℕ) → place < later → IsEntryAt entries (entry_at entries place).node later → ⊥)
      → IsNextPlace entries place next
  next_one : place < next → IsEntryAt entries (entry_at entries place).node next
      → ((later : ℕ) → place < later → IsEntryAt entries (entry_at entries place).node later → next ≤ later)
      → IsNextPlace entries place next

-- the node has no entry, or this is its last one
pub data IsLast (entries : List WalkEntry) (node last : ℕ) : Type 0 where
  no_entries : last ≡ NONE → ((place : ℕ) → IsEntryAt entries node place → ⊥) → IsLast entries node last
  last_one : IsEntryAt entries node last → ((place : ℕ) → IsEntryAt entries node place → place ≤ last)
      → IsLast entries node last

-- entries know the next one of their node, and nodes their last entry
pub record IsLinked (g : Graph) (st : Lists) : Type 0 where
  pub few : length st.entries ≤ NONE
  pub next_each : length st.nexts ≡ length st.entries
  pub last_each : length st.lasts ≡ node_count g
  pub head_each : length st.heads ≡ arc_count g
  pub key_each : length st.keys ≡ arc_count g
  pub free_each : length st.free ≡ node_count g
  pub tails : AreTailsEarlier st.entries
  pub nexts : (place : ℕ) → place < length st.entries → IsNextPlace st.entries place (slice_index st.nexts place)
  pub lasts : (node : ℕ) → node < node_count g → IsLast st.entries node (last_place st node)

-- each node has its first walks, and the nodes from this one on are ready for the next
pub record IsGoing (g : Graph) (st : Lists) (from : ℕ) : Type 0 where
  pub linked : IsLinked g st
  pub firsts : (node : ℕ) → node < node_count g → HasFirst g st.entries node
  pub started : (node : ℕ) → from ≤ node → node < node_count g → IsStarted g st node

-- among so many keys the greatest above the floor, the first of equals; or the floor
pub data IsGreatest (keys : List ℕ) (count floor key place : ℕ) : Type 0 where
  none_above : key ≡ floor → ((k : ℕ) → k < count → slice_index keys k ≤ floor) → IsGreatest keys count floor key place
  first_above : floor < key → place < count → slice_index keys place ≡ key
      → ((k : ℕ) → k < count → slice_index keys k ≤ key)
      → ((k : ℕ) → k < place → slice_index keys k < key)
      → IsGreatest keys count floor key place
