-- What holds of every call, whatever its command, by its status and by what the files told (this project's own).
use Rattle.std.specs.Prelude.{◌≡◌, ℕ, List, [], ◌∷◌, ◌++◌, Option}
use Rattle.pd_base.specs.Memory.{out_of_memory}
use Rattle.pd_io.specs.Counts.{Rose}
use Rattle.pd_io.specs.Folder.{Folder}
use Rattle.pd_io.specs.Telling.{Tells}
use Rattle.pd_io.specs.Seen.{Outside, SinkSeen}
use Rattle.calls.specs.declared.cause.Cause.{Cause}
use Rattle.calls.specs.declared.role.Role.{Role}
use Rattle.calls.specs.declared.refusal.Refusal.{Refusal}
use Rattle.calls.specs.declared.ending.Ending.TheVariants.{Refused}
use Rattle.calls.specs.declared.status.Status.{Status}
use Rattle.calls.specs.declared.status.Status.TheVariants as exit
use Rattle.calls.specs.Lines.{status_for}
use Rattle.calls.specs.Reports.{IsReported}
use Rattle.calls.specs.Work.{Work, Stage, Require, names_read}
use Rattle.calls.specs.Passing.{Pass}
use Rattle.calls.specs.Stopping.{IsRefused, IsUnread}
use Rattle.calls.specs.Calls.{AreTold, IsDoneOrNoMemory, NoneFailed}

-- Nothing was begun or written: all names hold what they held, the same file is open for writing, out is as it was, and no read or
-- write failed, as far as the counts tell.
pub record IsUntouched (old new : Outside) : Type 0 where
  pub held : Tells old.files.folder new.files.folder (λ before after. after.held ≡ before.held)
  pub writer : new.files.writer ≡ old.files.writer
  pub read_faults : new.files.read_faults ≡ old.files.read_faults
  pub write_faults : new.files.write_faults ≡ old.files.write_faults
  pub out : new.out ≡ old.out

-- the words or the inputs were refused for this cause, which was reported, and nothing was begun or written
pub record WasRefused (work : Work) (cause : Cause) (status : Status) (old new : Outside) : Type 0 where
  pub refusal : Refusal
  pub of_cause : refusal.cause ≡ cause
  pub refused : IsRefused work refusal old.files new.files
  pub reported : IsReported (Refused refusal) status old.err new.err
  pub untouched : IsUntouched old new

-- a read of the file of some role failed, nothing was written, and out is as it was
pub record HasFailedRead (work : Work) (old new : Outside) : Type 0 where
  pub role : Role
  pub unread : IsUnread work role old.files new.files
  pub out : new.out ≡ old.out

-- a failed write of the files was counted, or one of out
pub data HasFailedWrite (old new : Outside) : Type 0 where
  of_files : Rose old.files.write_faults new.files.write_faults → HasFailedWrite old new
  of_out : Rose old.out.faults new.out.faults → HasFailedWrite old new

-- What the files hold is refused: all names are told, the stages before a requirement are passed with these inputs, and that requirement
-- refuses them.
pub record LeadsToRefusal (work : Work) (folder : Option Folder) : Type 0 where
  pub told : AreTold (names_read work.stages) folder
  pub before : List (Stage work.Requirement)
  pub requirement : work.Requirement
  pub later : List (Stage work.Requirement)
  pub place : work.stages ≡ before ++ Require requirement ∷ later
  pub inputs : List (List ℕ)
  pub passed : Pass work folder before [] inputs
  pub refusal : Refusal
  pub refuses : work.Refuses requirement inputs refusal

-- this requirement's refusal of these inputs was reported, or memory ran out
pub data AnswersRefusal (work : Work) (requirement : work.Requirement) (inputs : List (List ℕ)) (status : Status) (old new : SinkSeen)
    : Type 0 where
  refused : (refusal : Refusal) → work.Refuses requirement inputs refusal → IsReported (Refused refusal) status old new
      → AnswersRefusal work requirement inputs status old new
  no_memory : status ≡ exit.NoMemory out_of_memory → AnswersRefusal work requirement inputs status old new

-- the work was done, or memory ran out; or this requirement refused these inputs, which was reported
pub data AnswersAt (work : Work) (last : work.Requirement) (inputs : List (List ℕ)) (status : Status) (old new : SinkSeen) : Type 0 where
  done : IsDoneOrNoMemory status → AnswersAt work last inputs status old new
  refused_last : (refusal : Refusal) → work.Refuses last inputs refusal → IsReported (Refused refusal) status old new
      → AnswersAt work last inputs status old new

-- what holds of a call with this status
pub record KeepsLaws (work : Work) (status : Status) (old new : Outside) : Type 0 where
  -- the status of refusals for a cause has such a refusal, and then nothing was begun or written
  pub refused : (cause : Cause) → status ≡ status_for cause → WasRefused work cause status old new
  -- that of failed reads has its failed read
  pub unread : status ≡ exit.ReadFault → HasFailedRead work old new
  -- that of failed writes has its failed write
  pub unwritten : status ≡ exit.WriteFault → HasFailedWrite old new
  -- where nothing failed, what the files hold is refused where it leads to a refusal, by the requirement of that one
  pub answered : (leads : LeadsToRefusal work old.files.folder) → NoneFailed old new
      → AnswersRefusal work leads.requirement leads.inputs status old.err new.err
