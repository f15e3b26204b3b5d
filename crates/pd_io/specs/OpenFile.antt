-- Bytes that go to the file that is open for writing, some at a time (this project's own).
use Rattle.std.specs.Prelude.{◌≡◌, ℕ, List, ◌++◌, Option, None, Some}
use Rattle.pd_io.specs.Folder.{Folder}
use Rattle.pd_io.specs.Seen.{FilesSeen}
use Rattle.pd_io.specs.Whole.{folder_with}

-- whatever the open file held, it holds this piece behind it, and nothing else changed
abbrev pub AppendsTo : Option (List ℕ) → List ℕ → Folder → Folder → Type 0
AppendsTo None piece old new = new ≡ old
AppendsTo (Some name) piece old new =
    (others : Folder) (held : List ℕ) → old ≡ folder_with others name held → new ≡ folder_with others name (held ++ piece)

-- of the bytes that were to come the open file took a front, and these are left
pub record TakesUpTo (writer : Option (List ℕ)) (coming left : List ℕ) (old new : Folder) : Type 0 where
  pub piece : List ℕ
  pub split : coming ≡ piece ++ left
  pub appended : AppendsTo writer piece old new

-- so it was, whatever is left
abbrev pub TakesFront : Option (List ℕ) → List ℕ → Folder → Folder → Type 0
TakesFront writer coming old new = (left : List ℕ) × TakesUpTo writer coming left old new

-- the same files are open, and no read failed, as far as the counts tell
pub record KeepsOpen (old new : FilesSeen) : Type 0 where
  pub reader : new.reader ≡ old.reader
  pub writer : new.writer ≡ old.writer
  pub read_faults : new.read_faults ≡ old.read_faults
