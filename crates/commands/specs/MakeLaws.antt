-- What holds of a call of `make`, beside what holds of every call (this project's own).
use Rattle.std.specs.Prelude.{◌≡◌}
use Rattle.pd_base.specs.Memory.{out_of_memory}
use Rattle.pd_io.specs.Seen.{FilesSeen, Outside}
use Rattle.pd_io.specs.Telling.{Tells}
use Rattle.calls.specs.declared.status.Status.{Status}
use Rattle.calls.specs.declared.status.Status.TheVariants as exit

-- the work was done, a write on out failed, or memory ran out
pub data AnswersMake (status : Status) : Type 0 where
  done : status ≡ exit.Done → AnswersMake status
  unprinted : status ≡ exit.WriteFault → AnswersMake status
  no_memory : status ≡ exit.NoMemory out_of_memory → AnswersMake status

-- no file was touched: the folder that is told is as before, and so are the counts of failed calls
pub record TouchesNoFile (old new : FilesSeen) : Type 0 where
  pub told : Tells old.folder new.folder (λ before after. after ≡ before)
  pub read_faults : new.read_faults ≡ old.read_faults
  pub write_faults : new.write_faults ≡ old.write_faults

pub record KeepsMakeLaws (status : Status) (old new : Outside) : Type 0 where
  pub statuses : AnswersMake status
  pub untouched : TouchesNoFile old.files new.files
