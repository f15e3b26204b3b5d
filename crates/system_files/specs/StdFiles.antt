-- Which real files an object has open, and what std says of the bytes that pass through them (this project's own).
use Rattle.std.specs.Prelude.{◌≡◌, ℕ, Bool, true, false, List, take, Option, None, Some, option_map, string_bytes}
use Rattle.std.specs.Io.KnownBytes.{Appends, Consumes, IsAtEnd}
use Rattle.std.specs.declared.io.ErrorKind.{ErrorKind}
use Rattle.std.specs.declared.io.ErrorKind.TheVariants.{InvalidInput, Unsupported}
use Rattle.system_files.specs.declared.std_files.ReadFile.{ReadFile}
use Rattle.system_files.specs.declared.std_files.WriteFile.{WriteFile}
use Rattle.pd_io.specs.Folder.{Reader}

-- the file that is read, by its name's bytes, and how many of its bytes were taken
abbrev pub std_reader : {F : Type 0} → Option (ReadFile F) → Option Reader
std_reader {F} reading =
    option_map (λ (file : ReadFile F). record { name = string_bytes file.name; place = file.place }) reading

-- the name of the file that is written, by its bytes
abbrev pub std_writer : {F : Type 0} → Option (WriteFile F) → Option (List ℕ)
std_writer {F} writing = option_map (λ (file : WriteFile F). string_bytes file.name) writing

-- the open file that is read: none before one was begun, and none after a failed read
abbrev pub open_to_read : {F : Type 0} → Option (ReadFile F) → Option F
open_to_read None = None
open_to_read (Some reading) = reading.file

-- the open file that is written: none before one was begun, and none after a failed write
abbrev pub open_to_write : {F : Type 0} → Option (WriteFile F) → Option F
open_to_write None = None
open_to_write (Some writing) = writing.file

-- a read gave the first count bytes of this buffer
pub record Gave (old new : Option (List ℕ)) (count : ℕ) (buffer : List ℕ) : Type 0 where
  -- what was left begins with them, where std knows what was left
  pub bytes : Consumes old new (take count buffer)
  -- there were none only at the end
  pub end : count ≡ 0 → IsAtEnd new

-- a read of a file that is open before and after it gave these bytes
abbrev pub FileGave : {F : Type 0} → (F → Option (List ℕ)) → Option F → Option F → ℕ → List ℕ → Type 0
FileGave remaining (Some old) (Some new) count buffer = Gave (remaining old) (remaining new) count buffer
FileGave remaining old new count buffer = ⊥

-- a write to a file that is open before and after it took these bytes
abbrev pub FileTook : {F : Type 0} → (F → Option (List ℕ)) → Option F → Option F → List ℕ → Type 0
FileTook contents (Some old) (Some new) bytes = Appends (contents old) (contents new) bytes
FileTook contents old new bytes = ⊥

-- `sync_all` answers an error of this kind at a file that can't be synced, as a pipe or a device
abbrev pub cannot_sync : ErrorKind → Bool
cannot_sync InvalidInput = true
cannot_sync Unsupported = true
cannot_sync _ = false
