-- What stands after a whole file was read or written, and after all bytes went to a sink (this project's own).
use Rattle.std.specs.Prelude.{◌≡◌, ◌≢◌, ℕ, List, [], ◌∷◌, ◌++◌, Result, Err}
use Rattle.pd_base.specs.Memory.{out_of_memory}
use Rattle.pd_io.specs.declared.fault.ReadFault.{ReadFault}
use Rattle.pd_io.specs.declared.fault.ReadFault.TheVariants.{NoMemory}
use Rattle.pd_io.specs.Folder.{Folder, put, HoldsFront}

-- the folder with one more name asked; no name's bytes change
abbrev pub folder_after_asking : Folder → List ℕ → Folder
folder_after_asking folder name = record folder { asked = folder.asked ++ name ∷ [] }

-- what reading a whole file does to the folder
pub data AsksFor {T : Type 0} (result : Result T ReadFault) (name : List ℕ) (old new : Folder) : Type 0 where
  -- the name was asked once
  asked : new ≡ folder_after_asking old name → AsksFor result name old new
  -- memory ran out before the name was asked
  no_memory : result ≡ Err (NoMemory out_of_memory) → new ≡ old → AsksFor result name old new

-- the folder with these bytes under this name
abbrev pub folder_with : Folder → List ℕ → List ℕ → Folder
folder_with folder name text = record folder { held = put folder.held name text }

-- after a write that broke off: under the name stands what stood there or a front of the text, and nothing else changed
pub record HoldsPart (name text : List ℕ) (old new : Folder) : Type 0 where
  pub held : HoldsFront old.held new.held name text
  pub asked : new.asked ≡ old.asked

-- a sink took a front of the text, and not all of it
abbrev pub TookPart : List ℕ → List ℕ → List ℕ → Type 0
TookPart text old new = (front rest : List ℕ) × (rest ≢ []) × (text ≡ front ++ rest) × (new ≡ old ++ front)
