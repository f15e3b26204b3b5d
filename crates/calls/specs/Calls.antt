-- What the program promises of a whole call of any command (this project's own).
use Rattle.std.specs.Prelude.{◌≡◌, ⊤, ℕ, List, [], ◌∷◌, ◌++◌, Option, None, Some}
use Rattle.pd_base.specs.Memory.{out_of_memory}
use Rattle.pd_io.specs.Counts.{Rose}
use Rattle.pd_io.specs.Folder.{Folder}
use Rattle.pd_io.specs.Telling.{Tells}
use Rattle.pd_io.specs.Seen.{FilesSeen, Outside, Seen, seen_of}
use Rattle.calls.specs.declared.ending.Ending.{Ending}
use Rattle.calls.specs.declared.status.Status.{Status}
use Rattle.calls.specs.declared.status.Status.TheVariants as exit
use Rattle.calls.specs.Reports.{IsReported}
use Rattle.calls.specs.Work.{Work, Products, names_read}
use Rattle.calls.specs.Passing.{Pass, HasPassed}
use Rattle.calls.specs.Stopping.{Stops}
use Rattle.calls.specs.Writing.{Writes, put_all, writer_after}

-- A call of this work came to this ending: it stopped before it wrote, or it passed all stages and wrote the products to
-- which their inputs lead.
pub data Performs (work : Work) (ending : Ending) (old new : Seen) : Type 0 where
  stopped : Stops work ending old.files new.files → new.out ≡ old.out → Performs work ending old new
  wrote : (inputs : List (List ℕ)) (products : Products) (read : FilesSeen)
      → HasPassed work work.stages inputs old.files read → work.Gives inputs products
      → Writes products ending (record { files = read; out = old.out }) new → Performs work ending old new

-- a call of this work has this status: it came to an ending, which was reported so
pub record Ends (work : Work) (status : Status) (old new : Outside) : Type 0 where
  pub ending : Ending
  pub performed : Performs work ending (seen_of old) (seen_of new)
  pub reported : IsReported ending status old.err new.err

-- The work was done: all stages were passed, and the inputs lead to these products. The files that are due hold their texts,
-- all other names what they held, and no file that was written is left open. Out took its text, and err nothing. No read or
-- write failed, as far as the counts tell.
pub record IsDone (work : Work) (old new : Outside) : Type 0 where
  pub inputs : List (List ℕ)
  pub products : Products
  pub passed : Pass work old.files.folder work.stages [] inputs
  pub gives : work.Gives inputs products
  pub files : Tells old.files.folder new.files.folder (λ before after.
      after ≡ record { held = put_all before.held products.files; asked = before.asked ++ names_read work.stages })
  pub out : Tells old.out.taken new.out.taken (λ before after. after ≡ before ++ products.out)
  pub err : new.err ≡ old.err
  pub writer : new.files.writer ≡ writer_after products.files old.files.writer
  pub read_faults : new.files.read_faults ≡ old.files.read_faults
  pub write_faults : new.files.write_faults ≡ old.files.write_faults
  pub out_faults : new.out.faults ≡ old.out.faults

-- what stands under these names is told, if there are any
abbrev pub AreTold : List (List ℕ) → Option Folder → Type 0
AreTold [] folder = ⊤
AreTold (name ∷ names) None = ⊥
AreTold (name ∷ names) (Some told) = ⊤

-- the files tell inputs with which all stages of this work are passed
pub record HasAcceptedInputs (work : Work) (folder : Option Folder) : Type 0 where
  pub told : AreTold (names_read work.stages) folder
  pub inputs : List (List ℕ)
  pub passed : Pass work folder work.stages [] inputs

-- no failed read or write of the files or of out was counted, where a count that stands at 2^64 - 1 counts as risen
pub record NoneFailed (old new : Outside) : Type 0 where
  pub read : ¬ Rose old.files.read_faults new.files.read_faults
  pub write : ¬ Rose old.files.write_faults new.files.write_faults
  pub out : ¬ Rose old.out.faults new.out.faults

-- the statuses to which a call comes that nothing stops but want of memory
pub data IsDoneOrNoMemory (status : Status) : Type 0 where
  done : status ≡ exit.Done → IsDoneOrNoMemory status
  no_memory : status ≡ exit.NoMemory out_of_memory → IsDoneOrNoMemory status
