-- The number with which the program ends (this project's own).
use Rattle.std.specs.Prelude.{◌≡◌, ℕ}
use Rattle.pd_base.specs.Memory.{out_of_memory}
use Rattle.pd_io.specs.Seen.{Outside}
use Rattle.calls.specs.declared.ending.Ending.TheVariants.{NoMemory}
use Rattle.calls.specs.declared.status.Status.{Status}
use Rattle.calls.specs.Calls.{Ends}
use Rattle.calls.specs.Lines.{number_of}
use Rattle.calls.specs.Reports.{IsReported}
use Rattle.calls.specs.Work.{Work}

-- it is that of the status of a call of this work
pub record ExitsFor (work : Work) (number : ℕ) (old new : Outside) : Type 0 where
  pub status : Status
  pub ends : Ends work status old new
  pub is : number ≡ number_of status

-- nothing was done but to report want of memory, of whose status it is the number
pub record ExitsWithoutMemory (number : ℕ) (old new : Outside) : Type 0 where
  pub status : Status
  pub reported : IsReported (NoMemory out_of_memory) status old.err new.err
  pub files : new.files ≡ old.files
  pub out : new.out ≡ old.out
  pub is : number ≡ number_of status
