-- Lines that were found one after another, each once (this project's own).
use Rattle.std.specs.Prelude.{◌≡◌, ◌≢◌, ℕ, ◌-◌, ◌≤◌, ◌⊎◌, ◌↔◌, ◌++◌, Bool, List, [], length, nat_lt, if◌then◌else◌, IsTrue, AllPairs, Contains}
use Rattle.pd_base.specs.declared.ids.LineId.{LineId}
use Rattle.pd_base.specs.Links.{LinkList, IsLink}
use Rattle.netlist.specs.Circuit.{Circuit, source_count, pins_at}
use Rattle.cones.specs.Marks.{is_marked}

-- how many lines there may be, and those that were found, in the order of finding
pub record FoundSet : Type 0 where
  pub room : ℕ
  pub lines : List LineId

-- the line has a mark
abbrev pub HasMark : List Bool → ℕ → Type 0
HasMark marks line = IsTrue (is_marked marks line)

-- exactly the lines that were found have their marks; each was found once; and there is room for all
pub record AreMarked (marks : List Bool) (lines : List LineId) (capacity : ℕ) : Type 0 where
  pub exactly : (line : ℕ) → HasMark marks line ↔ Contains lines (record { 0 = line })
  pub once : AllPairs (λ a b. a.0 ≢ b.0) lines
  pub enough : length marks ≤ capacity

-- of these lines, those that were not found yet now are, behind the others
pub record FindsMore (lines : List LineId) (old new : FoundSet) : Type 0 where
  pub room : new.room ≡ old.room
  pub more : List LineId
  pub behind : new.lines ≡ old.lines ++ more
  pub exactly : (line : ℕ) → Contains new.lines (record { 0 = line })
      ↔ (Contains old.lines (record { 0 = line }) ⊎ Contains lines (record { 0 = line }))

-- the lines that the gate of a line reads, and none for the line of a source
abbrev pub reads_of : Circuit → ℕ → List LineId
reads_of c line = if nat_lt line (source_count c) then [] else pins_at c (line - source_count c)

-- the other line stands next behind a line: the line's gate reads it, or the line is a source that is linked to it
abbrev pub IsNextBehind : Circuit → LinkList → ℕ → ℕ → Type 0
IsNextBehind c links line other = Contains (reads_of c line) (record { 0 = other }) ⊎ IsLink links line other

-- of the lines that stand next behind a line, those that were not found yet now are, behind the others
pub record FindsBehind (c : Circuit) (links : LinkList) (line : ℕ) (old new : FoundSet) : Type 0 where
  pub room : new.room ≡ old.room
  pub more : List LineId
  pub behind : new.lines ≡ old.lines ++ more
  pub exactly : (other : ℕ) → Contains new.lines (record { 0 = other })
      ↔ (Contains old.lines (record { 0 = other }) ⊎ IsNextBehind c links line other)
