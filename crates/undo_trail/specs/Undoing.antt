-- What undoing writes does (this project's own).
use Rattle.std.specs.Prelude.{◌≡◌, List, [], ◌∷◌, slice_set, slice_get, Some}
use Rattle.undo_trail.specs.declared.trail.Note.{Note}

-- the values with the noted writes undone, the last one first
abbrev pub undone : {T : Type 0} → List (Note T) → List T → List T
undone [] values = values
undone (note ∷ notes) values = slice_set (undone notes values) note.index note.old

-- Writes in the order of the notes lead from the values before to those after, each noted with the value that stood at its place.
pub data AreNoted {T : Type 0} : List (Note T) → List T → List T → Type 0 where
  none : {values : List T} → AreNoted [] values values
  more : {note : Note T} {notes : List (Note T)} {before after : List T} (written : T)
      → slice_get before note.index ≡ Some note.old
      → AreNoted notes (slice_set before note.index written) after → AreNoted (note ∷ notes) before after
