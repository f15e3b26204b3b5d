-- The lines that a tree splits, among the ends of the engine that judges it: facts of loops, spoken inside this crate alone (this
-- project's own).
use Rattle.std.specs.Prelude.{⊤, ℕ, ◌<◌, ◌≤◌, List, All, Contains}
use Rattle.pd_base.specs.declared.ids.LineId.{LineId}
use Rattle.trees.specs.declared.tree.Node.{Node}
use Rattle.trees.specs.declared.tree.Node.TheVariants.{Closed, Waiting, Split}

-- where the node is a split at one of so many lines, that line is one of the ends
abbrev pub IsEndAt : ℕ → List LineId → Node → Type 0
IsEndAt count ends Closed = ⊤
IsEndAt count ends Waiting = ⊤
IsEndAt count ends (Split split) = split.line.0 < count → Contains ends split.line

-- the ends are still there, and what came to them are some of so many lines
pub record AddsEnds (count : ℕ) (old new : List LineId) : Type 0 where
  pub still : (end : LineId) → Contains old end → Contains new end
  pub below : (bound : ℕ) → count ≤ bound → All (λ end. end.0 < bound) old → All (λ end. end.0 < bound) new
