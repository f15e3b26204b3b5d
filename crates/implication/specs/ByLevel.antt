-- Lines by level, in words that are spoken inside this crate alone (this project's own).
use Rattle.std.specs.Prelude.{ℕ, ◌≤◌, ◌<◌, ◌↔◌, List, length, map, slice_index_or, Contains}
use Rattle.pd_base.specs.declared.ids.LineId.{LineId}
use Rattle.netlist.specs.Circuit.{Circuit}
use Rattle.netlist.specs.Levels.{level}

-- the lines of a list of lines with their levels
abbrev pub lines_by_level : List (ℕ × LineId) → List LineId
lines_by_level ranked = map (λ entry. entry.1) ranked

-- none of these lines stands behind one of a higher level
abbrev pub IsByLevel : Circuit → List LineId → Type 0
IsByLevel c lines = (place later : ℕ) (else_ : LineId) → place ≤ later → later < length lines
    → level c (slice_index_or lines place else_).0 ≤ level c (slice_index_or lines later else_).0

-- the same lines, by level
pub record AreSameByLevel (c : Circuit) (lines : List LineId) (ranked : List (ℕ × LineId)) : Type 0 where
  pub same : (line : LineId) → Contains lines line ↔ Contains (lines_by_level ranked) line
  pub by_level : IsByLevel c (lines_by_level ranked)
