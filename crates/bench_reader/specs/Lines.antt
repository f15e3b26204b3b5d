-- The lines of a text (ISCAS .bench).
use Rattle.std.specs.Prelude.{ℕ, Bool, if◌then◌else◌, ◌==◌, List, [], ◌∷◌}
use Rattle.std.specs.List.{onto_first}

-- whether a byte ends a line
abbrev pub ends_line : ℕ → Bool
ends_line byte = byte == 10

-- the lines of a text, without the bytes that end them; a last line that is not ended counts
abbrev pub lines_of : List ℕ → List (List ℕ)
lines_of [] = []
lines_of (byte ∷ bytes) = if ends_line byte then [] ∷ lines_of bytes else onto_first byte (lines_of bytes)
