-- The tokens of a line (ISCAS .bench).
use Rattle.std.specs.Prelude.{ℕ, Bool, true, false, List, [], ◌∷◌}
use Rattle.bench_reader.specs.declared.byte.ByteClass.{ByteClass}
use Rattle.bench_reader.specs.declared.byte.ByteClass.TheVariants.{Blank, Mark, NamePart, Bad}
use Rattle.bench_reader.specs.declared.byte.Mark.{Mark as MarkByte}
use Rattle.bench_reader.specs.Bytes.{class_of, is_part}

-- a token: a name, or a mark
pub data Token : Type 0 where
  name : List ℕ → Token
  mark : MarkByte → Token

-- whether a text begins with a part of a name
abbrev pub begins_name : List ℕ → Bool
begins_name [] = false
begins_name (byte ∷ bytes) = is_part byte

-- A byte of a name before these tokens: it is the first of the name that goes on right behind it, or a name by itself.
abbrev pub with_name_byte : ℕ → Bool → List Token → List Token
with_name_byte byte true (name bytes ∷ tokens) = name (byte ∷ bytes) ∷ tokens
with_name_byte byte goes_on tokens = name (byte ∷ []) ∷ tokens

-- a byte of this class before these tokens, where a name does or does not go on behind it
abbrev pub with_byte : ByteClass → ℕ → Bool → List Token → List Token
with_byte Blank byte goes_on tokens = tokens
with_byte (Mark is) byte goes_on tokens = mark is ∷ tokens
with_byte NamePart byte goes_on tokens = with_name_byte byte goes_on tokens
with_byte Bad byte goes_on tokens = tokens

-- The tokens of what stands before a comment. A name is a longest run of bytes that are parts of names.
abbrev pub tokens_of : List ℕ → List Token
tokens_of [] = []
tokens_of (byte ∷ bytes) = with_byte (class_of byte) byte (begins_name bytes) (tokens_of bytes)
