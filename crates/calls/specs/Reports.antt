-- How an ending is reported: what err took, and the status (this project's own).
use Rattle.std.specs.Prelude.{◌≡◌, ◌≢◌, ◌++◌, ⊤, List, ℕ, Result, Ok, Err}
use Rattle.pd_base.specs.Memory.{out_of_memory}
use Rattle.pd_io.specs.Counts.{Rose}
use Rattle.pd_io.specs.Telling.{Tells}
use Rattle.pd_io.specs.Whole.{TookPart}
use Rattle.pd_io.specs.Seen.{SinkSeen}
use Rattle.pd_io.specs.declared.fault.FileFault.{FileFault}
use Rattle.pd_io.specs.declared.fault.FileFault.TheVariants as failure
use Rattle.calls.specs.declared.ending.Ending.{Ending}
use Rattle.calls.specs.declared.ending.Ending.TheVariants.{Done}
use Rattle.calls.specs.declared.status.Status.{Status}
use Rattle.calls.specs.declared.status.Status.TheVariants as exit
use Rattle.calls.specs.Lines.{line_of, status_of}

-- all of this line, or of this piece of one, stands on err, and no failed write was counted
pub record HasWholeLine (text : List ℕ) (old new : SinkSeen) : Type 0 where
  pub taken : Tells old.taken new.taken (λ before after. after ≡ before ++ text)
  pub uncounted : new.faults ≡ old.faults

-- a part of it stands on err, not all of it
abbrev pub HasPartOfLine : List ℕ → SinkSeen → SinkSeen → Type 0
HasPartOfLine text old new = Tells old.taken new.taken (TookPart text)

-- a write on err failed before all of it stood there
pub record FailedWithin (text : List ℕ) (old new : SinkSeen) : Type 0 where
  pub taken : HasPartOfLine text old new
  pub rose : Rose old.faults new.faults

-- err had no memory for all of it, which counts as no failed write
pub record ErrLacksMemory (text : List ℕ) (old new : SinkSeen) : Type 0 where
  pub taken : HasPartOfLine text old new
  pub uncounted : new.faults ≡ old.faults

-- what stands on err after this line, or this piece of one, was written there, by the answer of the writing
abbrev pub LineEnds : List ℕ → Result ⊤ FileFault → SinkSeen → SinkSeen → Type 0
LineEnds text (Ok done) old new = HasWholeLine text old new
LineEnds text (Err failure.Failed) old new = FailedWithin text old new
LineEnds text (Err (failure.NoMemory _)) old new = ErrLacksMemory text old new

-- how an ending was reported
pub data IsReported (ending : Ending) (status : Status) (old new : SinkSeen) : Type 0 where
  -- the work was done: err is as it was
  nothing : ending ≡ Done → status ≡ exit.Done → new ≡ old → IsReported ending status old new
  -- the whole line stands on err
  whole : ending ≢ Done → status ≡ status_of ending → HasWholeLine (line_of ending) old new
      → IsReported ending status old new
  -- a write on err failed, which changes no status
  cut : ending ≢ Done → status ≡ status_of ending → FailedWithin (line_of ending) old new
      → IsReported ending status old new
  -- err had no memory
  no_memory : ending ≢ Done → status ≡ exit.NoMemory out_of_memory → ErrLacksMemory (line_of ending) old new
      → IsReported ending status old new
