-- One input, read or not (this project's own).
use Rattle.std.specs.Prelude.{◌≡◌, ℕ, ◌+◌, ◌<◌, ◌≤◌, List, [], ◌∷◌, length, Option, None, Some, Vec}
use Rattle.std.specs.declared.alloc.Global.{Global}
use Rattle.pd_base.specs.Memory.{out_of_memory}
use Rattle.pd_io.specs.Counts.{Rose}
use Rattle.pd_io.specs.Telling.{Tells, IsFrontOf}
use Rattle.pd_io.specs.Seen.{FilesSeen}
use Rattle.calls.specs.declared.role.Role.{Role}
use Rattle.calls.specs.declared.ending.Ending.{Ending}
use Rattle.calls.specs.declared.ending.Ending.TheVariants.{ReadFault, NoMemory}
use Rattle.calls.specs.Passing.{AsksOnly, HasBytes, HasOnlyRead}

-- these bytes were read whole, and are no more than the limit
pub record IsReadWhole (limit : ℕ) (read : Vec ℕ Global) (bytes : List ℕ) : Type 0 where
  pub items : read.items ≡ bytes
  pub within : length bytes ≤ limit

-- the bytes were read whole, or there are more than the limit
abbrev pub IsReadAs : ℕ → Option (Vec ℕ Global) → List ℕ → Type 0
IsReadAs limit None bytes = limit < length bytes
IsReadAs limit (Some read) bytes = IsReadWhole limit read bytes

-- how many bytes of a file were taken: all of them, or one past the limit
abbrev pub bytes_read : ℕ → Option (Vec ℕ Global) → ℕ
bytes_read limit None = limit + 1
bytes_read limit (Some read) = length read.items

-- a file was read to its end, or to one byte past the limit
pub record ReadsInput (limit : ℕ) (name : List ℕ) (read : Option (Vec ℕ Global)) (old new : FilesSeen) : Type 0 where
  pub bytes : List ℕ
  pub is_read : IsReadAs limit read bytes
  pub has : HasBytes old.folder name bytes
  pub reader : new.reader ≡ Some (record { name = name; place = bytes_read limit read })
  pub asked : Tells old.folder new.folder (AsksOnly (name ∷ []))
  pub only : HasOnlyRead old new

-- a file was not read
pub data FailsToRead (role : Role) (name : List ℕ) (ending : Ending) (old new : FilesSeen) : Type 0 where
  -- a read of it failed
  failed : ending ≡ ReadFault role → Tells old.folder new.folder (AsksOnly (name ∷ []))
      → Rose old.read_faults new.read_faults → new.write_faults ≡ old.write_faults
      → FailsToRead role name ending old new
  -- memory ran out, before the name was asked or afterwards
  no_memory : (names : List (List ℕ)) → ending ≡ NoMemory out_of_memory → IsFrontOf names (name ∷ [])
      → Tells old.folder new.folder (AsksOnly names)
      → new.read_faults ≡ old.read_faults → new.write_faults ≡ old.write_faults
      → FailsToRead role name ending old new
