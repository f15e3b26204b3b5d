-- The value of a trail (this project's own).
use Rattle.std.specs.Prelude.{ℕ, List}
use Rattle.undo_trail.specs.declared.trail.Note.{Note}

-- the notes, from the first on, and how many there is room for
pub record Noted (T : Type 0) : Type 0 where
  pub notes : List (Note T)
  pub room : ℕ
