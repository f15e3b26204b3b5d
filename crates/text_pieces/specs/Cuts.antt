-- A text, cut into pieces (this project's own).
use Rattle.std.specs.Prelude.{◌≡◌, ◌==◌, ◌≤◌, ℕ, false, List, [], ◌++◌, length, Option, None, Some}
use Rattle.std.specs.List.{slice_split, AllByRecursion}
use Rattle.std.specs.Borrow.{Bor}
use Rattle.std.specs.Global.{Vec}
use Rattle.text_pieces.specs.Tokens.{space, line}

-- no byte of the text is this one
abbrev pub Lacks : ℕ → List ℕ → Type 0
Lacks byte text = AllByRecursion (λ other. (other == byte) ≡ false) text

-- the pieces of a text between the bytes of this kind
abbrev pub pieces : ℕ → List ℕ → List (List ℕ)
pieces byte text = slice_split (λ other. other == byte) text

-- those of what is left
abbrev pub pieces_left : ℕ → Option (Bor (List ℕ)) → List (List ℕ)
pieces_left byte None = []
pieces_left byte (Some text) = pieces byte text.now

-- the words of a line, between single spaces
abbrev pub words_of : List ℕ → List (List ℕ)
words_of text = pieces space text

-- the words of what is left of a line
abbrev pub words_left : Option (Bor (List ℕ)) → List (List ℕ)
words_left left = pieces_left space left

-- one or more texts, in none of which this byte stands: joined by it, they are the pieces of what was joined
pub record ArePieces (byte : ℕ) (texts : List (List ℕ)) : Type 0 where
  pub some_text : 1 ≤ length texts
  pub lack : AllByRecursion (Lacks byte) texts

-- a line with its LF, and a text behind it
abbrev pub line_at_front : List ℕ × List ℕ → List ℕ
line_at_front parts = line parts.0 ++ parts.1

-- a text that is lent
abbrev pub lent_text : Bor (List ℕ) → List ℕ
lent_text text = text.now

-- two texts that are lent
abbrev pub lent_texts : Bor (List ℕ) × Bor (List ℕ) → List ℕ × List ℕ
lent_texts texts = (texts.0.now, texts.1.now)

-- what a vector holds
abbrev pub items_of : {T : Type 0} → Vec T → List T
items_of vector = vector.items
