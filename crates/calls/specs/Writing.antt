-- How the writing of a call's products may end, and what stands then: whole files, then a front of one, then files as before;
-- and out behind them all (this project's own).
use Rattle.std.specs.Prelude.{◌≡◌, ℕ, List, [], ◌∷◌, ◌++◌, Option, None}
use Rattle.pd_io.specs.Counts.{Rose}
use Rattle.pd_io.specs.Folder.{Contents, Folder, put}
use Rattle.pd_io.specs.Telling.{Tells}
use Rattle.pd_io.specs.Whole.{HoldsPart, TookPart}
use Rattle.pd_io.specs.Seen.{FilesSeen, Seen}
use Rattle.calls.specs.declared.role.Role.{Role}
use Rattle.calls.specs.declared.ending.Ending.{Ending}
use Rattle.calls.specs.declared.ending.Ending.TheVariants.{Done, Refused, ReadFault, WriteFault, OutFault, NoMemory}
use Rattle.calls.specs.Work.{Due, Products}

-- the contents once all these files are whole
abbrev pub put_all : Contents → List Due → Contents
put_all held [] = held
put_all held (due ∷ more) = put_all (put held due.name due.text) more

-- the folder once all these files are whole
abbrev pub folder_with_all : List Due → Folder → Folder
folder_with_all files folder = record { held = put_all folder.held files; asked = folder.asked }

-- the file that is open for writing once all these files are whole: none, but where nothing was written
abbrev pub writer_after : List Due → Option (List ℕ) → Option (List ℕ)
writer_after [] writer = writer
writer_after (due ∷ more) writer = None

-- all these files are whole, and no read or write failed, as far as the counts tell
pub record AreWhole (files : List Due) (old new : FilesSeen) : Type 0 where
  pub told : Tells old.folder new.folder (λ before after. after ≡ folder_with_all files before)
  pub writer : new.writer ≡ writer_after files old.writer
  pub read_faults : new.read_faults ≡ old.read_faults
  pub write_faults : new.write_faults ≡ old.write_faults

-- The writing has come to one of these files: those before it are whole, this one is as it was or holds a front of its text,
-- and those behind it are as they were.
pub record StandsInFile (files : List Due) (old new : FilesSeen) : Type 0 where
  pub before : List Due
  pub due : Due
  pub later : List Due
  pub place : files ≡ before ++ due ∷ later
  pub told : Tells old.folder new.folder (λ first last. HoldsPart due.name due.text (folder_with_all before first) last)
  pub read_faults : new.read_faults ≡ old.read_faults

-- all is written, and no read or write failed, as far as the counts tell
pub record IsWritten (products : Products) (old new : Seen) : Type 0 where
  pub files : AreWhole products.files old.files new.files
  pub out : Tells old.out.taken new.out.taken (λ before after. after ≡ before ++ products.out)
  pub out_faults : new.out.faults ≡ old.out.faults

-- a write of the file of this role failed, and out is as it was
pub record IsUnwritten (products : Products) (role : Role) (old new : Seen) : Type 0 where
  pub stands : StandsInFile products.files old.files new.files
  pub of_role : stands.due.role ≡ role
  pub rose : Rose old.files.write_faults new.files.write_faults
  pub out : new.out ≡ old.out

-- all files are whole, and of the text for out a part was taken, not all
pub record StandsOnOut (products : Products) (old new : Seen) : Type 0 where
  pub files : AreWhole products.files old.files new.files
  pub out : Tells old.out.taken new.out.taken (TookPart products.out)

-- a write on out failed
pub record IsUnprinted (products : Products) (old new : Seen) : Type 0 where
  pub stands : StandsOnOut products old new
  pub rose : Rose old.out.faults new.out.faults

-- memory ran out while a file was written, or out
pub data LacksMemoryToWrite (products : Products) (old new : Seen) : Type 0 where
  in_file : StandsInFile products.files old.files new.files → new.files.write_faults ≡ old.files.write_faults
      → new.out ≡ old.out → LacksMemoryToWrite products old new
  on_out : StandsOnOut products old new → new.out.faults ≡ old.out.faults → LacksMemoryToWrite products old new

-- the writing of these products ended so
abbrev pub Writes : Products → Ending → Seen → Seen → Type 0
Writes products Done old new = IsWritten products old new
Writes products (Refused refusal) old new = ⊥
Writes products (ReadFault role) old new = ⊥
Writes products (WriteFault role) old new = IsUnwritten products role old new
Writes products OutFault old new = IsUnprinted products old new
Writes products (NoMemory _) old new = LacksMemoryToWrite products old new
