-- Marks of lines, by line number (this project's own).
use Rattle.std.specs.Prelude.{ℕ, ◌⊎◌, ◌↔◌, Bool, false, List, slice_index_or, IsTrue, Contains}
use Rattle.pd_base.specs.declared.ids.LineId.{LineId}

-- whether this line is marked
abbrev pub is_marked : List Bool → ℕ → Bool
is_marked marks line = slice_index_or marks line false

-- marked are the lines that were, and these
abbrev pub AddsMarks : List Bool → List LineId → List Bool → Type 0
AddsMarks old lines new =
    (line : ℕ) → IsTrue (is_marked new line) ↔ (IsTrue (is_marked old line) ⊎ Contains lines (record { 0 = line }))
