-- The outputs, one after the other, each written or not (this project's own).
use Rattle.std.specs.Prelude.{◌≡◌, ℕ, List, ◌∷◌, ◌++◌}
use Rattle.pd_base.specs.Memory.{out_of_memory}
use Rattle.pd_io.specs.Counts.{Rose}
use Rattle.pd_io.specs.Telling.{Tells}
use Rattle.pd_io.specs.Whole.{HoldsPart, TookPart}
use Rattle.pd_io.specs.Seen.{FilesSeen, SinkSeen}
use Rattle.calls.specs.declared.ending.Ending.{Ending}
use Rattle.calls.specs.declared.ending.Ending.TheVariants.{Done, WriteFault, OutFault, NoMemory}
use Rattle.calls.specs.Work.{Due}
use Rattle.calls.specs.Writing.{AreWhole}

-- a file was not written: it is as it was, or holds a front of its text
pub data FailsToWrite (due : Due) (ending : Ending) (old new : FilesSeen) : Type 0 where
  -- a write of it failed
  failed : ending ≡ WriteFault due.role → Tells old.folder new.folder (HoldsPart due.name due.text)
      → Rose old.write_faults new.write_faults → new.read_faults ≡ old.read_faults
      → FailsToWrite due ending old new
  -- memory ran out
  no_memory : ending ≡ NoMemory out_of_memory → Tells old.folder new.folder (HoldsPart due.name due.text)
      → new.write_faults ≡ old.write_faults → new.read_faults ≡ old.read_faults
      → FailsToWrite due ending old new

-- files were written in their order, up to one that was not
pub record AreUnwritten (files : List Due) (ending : Ending) (old new : FilesSeen) : Type 0 where
  pub before : List Due
  pub due : Due
  pub later : List Due
  pub place : files ≡ before ++ due ∷ later
  pub between : FilesSeen
  pub whole : AreWhole before old between
  pub fails : FailsToWrite due ending between new

-- a text was printed on out, or it was not
pub data Prints (text : List ℕ) (ending : Ending) (old new : SinkSeen) : Type 0 where
  -- out took all of it
  whole : ending ≡ Done → Tells old.taken new.taken (λ before after. after ≡ before ++ text)
      → new.faults ≡ old.faults → Prints text ending old new
  -- a write failed, and out took a part, not all
  failed : ending ≡ OutFault → Tells old.taken new.taken (TookPart text) → Rose old.faults new.faults
      → Prints text ending old new
  -- memory ran out, and out took a part, not all
  no_memory : ending ≡ NoMemory out_of_memory → Tells old.taken new.taken (TookPart text) → new.faults ≡ old.faults
      → Prints text ending old new
