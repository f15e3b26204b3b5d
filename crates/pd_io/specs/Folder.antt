-- What a file object holds and tells: names with bytes, the names asked, the file that is read and the one that is
-- written (this project's own).
use Rattle.std.specs.Prelude.{◌≡◌, ⊤, ℕ, ◌+◌, ◌≤◌, List, [], ◌∷◌, ◌++◌, length, take, drop, Option, None, Some, Result, Ok, Err, unwrap_or, option_map, nat_eq, if◌then◌else◌}
use Rattle.std.specs.Cmp.Lexicographic.{pointwise}
use Rattle.pd_io.specs.declared.fault.FileFault.{FileFault}
use Rattle.pd_io.specs.declared.fault.FileFault.TheVariants.{Failed, NoMemory}
use Rattle.pd_io.specs.Telling.{IsFrontOf}

-- what stands under each name: `None` where the name is absent
abbrev pub Contents : Type 0
Contents = List ℕ → Option (List ℕ)

-- the bytes under a name, none where the name is absent
abbrev pub bytes_at : Contents → List ℕ → List ℕ
bytes_at held name = unwrap_or (held name) []

-- the contents with these bytes under this name, and all other names as before
abbrev pub put : Contents → List ℕ → List ℕ → Contents
put held name bytes other = if pointwise nat_eq other name then Some bytes else held other

-- what an object that tells shows: what it holds, and the names that it was asked to read, in order
pub record Folder : Type 0 where
  pub held : Contents
  pub asked : List (List ℕ)

-- nothing is held, and nothing was asked
abbrev pub empty_folder : Folder
empty_folder = record { held = λ _. None; asked = [] }

-- the file that is open for reading, and how many of its bytes were taken
pub record Reader : Type 0 where
  pub name : List ℕ
  pub place : ℕ

-- the names asked so far, after a `begin_read` of one more: want of memory leaves them
abbrev pub names_after_asking : Result ⊤ FileFault → List (List ℕ) → List ℕ → List (List ℕ)
names_after_asking (Ok done) asked name = asked ++ name ∷ []
names_after_asking (Err Failed) asked name = asked ++ name ∷ []
names_after_asking (Err (NoMemory refused)) asked name = asked

-- the reader after a `read`: moved by the bytes that it gave; an error leaves it
abbrev pub reader_after : Option Reader → Result ℕ FileFault → Option Reader
reader_after reader (Ok count) = option_map (λ r. record { name = r.name; place = r.place + count }) reader
reader_after reader (Err error) = reader

-- the first count bytes of a buffer are the next ones of these; there are none exactly at the end
pub record HoldsNext (left : List ℕ) (count : ℕ) (buffer : List ℕ) : Type 0 where
  pub bytes : take count buffer ≡ take count left
  pub within : count ≤ length left
  pub none_at_end : count ≡ 0 → left ≡ []

-- a `read` gave the next bytes of the file that is open
abbrev pub GivesNext : Folder → Option Reader → ℕ → List ℕ → Type 0
GivesNext folder None count buffer = ⊥
GivesNext folder (Some reader) count buffer = HoldsNext (drop reader.place (bytes_at folder.held reader.name)) count buffer

-- the contents after a `begin_write`: the name holds nothing; an error leaves them
abbrev pub contents_after_begin : Result ⊤ FileFault → Contents → List ℕ → Contents
contents_after_begin (Ok done) held name = put held name []
contents_after_begin (Err error) held name = held

-- the bytes that a `write` took: the first count of them; none where it failed
abbrev pub bytes_taken : Result ℕ FileFault → List ℕ → List ℕ
bytes_taken (Ok count) bytes = take count bytes
bytes_taken (Err error) bytes = []

-- the contents after a `write`: what it took stands behind the bytes of the file that is open for writing
abbrev pub contents_after_write : Contents → Option (List ℕ) → Result ℕ FileFault → List ℕ → Contents
contents_after_write held None result bytes = held
contents_after_write held (Some name) (Ok count) bytes = put held name (bytes_at held name ++ take count bytes)
contents_after_write held (Some name) (Err error) bytes = held

-- what stands under the names after a write of this text under this name, however far it came
pub data HoldsFront (old new : Contents) (name text : List ℕ) : Type 0 where
  -- every name has what it had
  untouched : new ≡ old → HoldsFront old new name text
  -- the name has a front of the text, and every other name has what it had
  front : (bytes : List ℕ) → IsFrontOf bytes text → new ≡ put old name bytes → HoldsFront old new name text
