-- The causes of the statuses 5, 6 and 7: which reads or writes failed, and what stands then.
use Rattle.std.proofs.Common.{◌≡◌, refl, sym, subst, ◌∙◌}
use Rattle.pd_base.specs.Memory.{out_of_memory}
use Rattle.pd_io.specs.Seen.{Outside, seen_of}
use Rattle.calls.specs.declared.ending.Ending.{Ending}
use Rattle.calls.specs.declared.ending.Ending.TheVariants.{Done, Refused, ReadFault, WriteFault, OutFault, NoMemory}
use Rattle.calls.specs.declared.status.Status.{Status}
use Rattle.calls.specs.declared.status.Status.TheVariants as exit
use Rattle.calls.specs.Lines.{status_of}
use Rattle.calls.specs.Reports.{IsReported}
use Rattle.calls.specs.Reports as reports
use Rattle.calls.specs.Work.{Work}
use Rattle.calls.specs.Calls.{Performs, Ends}
use Rattle.calls.specs.Calls as calls
use Rattle.calls.specs.Laws.{HasFailedRead, HasFailedWrite, of_files, of_out}
use Rattle.calls.proofs.Calls.{refusal_status}
use Rattle.calls.proofs.Outputs.{rose_later}

-- the status is that of its ending, or that of want of memory
data StatusIs (ending : Ending) (status : Status) : Type 0 where
  of_ending : status ≡ status_of ending → StatusIs ending status
  of_memory : status ≡ exit.NoMemory out_of_memory → StatusIs ending status

-- so is each that is reported
status_is : (ending : Ending) (status : Status) (old new : Outside) → IsReported ending status old.err new.err
    → StatusIs ending status
status_is ending status old new (reports.nothing is done same) =
    of_ending (done ∙ sym (subst (λ (e : Ending). status_of e ≡ exit.Done) (sym is) refl))
status_is ending status old new (reports.whole other is line) = of_ending is
status_is ending status old new (reports.cut other is part) = of_ending is
status_is ending status old new (reports.no_memory other is part) = of_memory is

-- the status of a failed read has its failed read
pub read_failed : (work : Work) (status : Status) (old new : Outside) → Ends work status old new
    → status ≡ exit.ReadFault → HasFailedRead work old new
read_failed work status old new ends failed =
    by_ending ends.ending ends.performed (status_is ends.ending status old new ends.reported) where
      by_kind : (ending : Ending) → Performs work ending (seen_of old) (seen_of new) → status_of ending ≡ exit.ReadFault
          → HasFailedRead work old new
      by_kind Done performed is = absurd (cc)
      by_kind (Refused refusal) performed is = absurd (refusal_status refusal.cause exit.ReadFault is)
      by_kind (ReadFault role) (calls.stopped stops same) is = record { role = role; unread = stops; out = same }
      by_kind (ReadFault role) (calls.wrote inputs products read passed gives writes) is = absurd writes
      by_kind (WriteFault role) performed is = absurd (cc)
      by_kind OutFault performed is = absurd (cc)
      by_kind (NoMemory _) performed is = absurd (cc)

      by_ending : (ending : Ending) → Performs work ending (seen_of old) (seen_of new) → StatusIs ending status
          → HasFailedRead work old new
      by_ending ending performed (of_ending is) = by_kind ending performed (sym is ∙ failed)
      by_ending ending performed (of_memory is) = let never : exit.NoMemory out_of_memory ≡ exit.ReadFault = sym is ∙ failed in absurd (cc)

-- the status of a failed write has its failed write
pub write_failed : (work : Work) (status : Status) (old new : Outside) → Ends work status old new
    → status ≡ exit.WriteFault → HasFailedWrite old new
write_failed work status old new ends failed =
    by_ending ends.ending ends.performed (status_is ends.ending status old new ends.reported) where
      by_kind : (ending : Ending) → Performs work ending (seen_of old) (seen_of new) → status_of ending ≡ exit.WriteFault
          → HasFailedWrite old new
      by_kind Done performed is = absurd (cc)
      by_kind (Refused refusal) performed is = absurd (refusal_status refusal.cause exit.WriteFault is)
      by_kind (ReadFault role) performed is = absurd (cc)
      by_kind (WriteFault role) (calls.stopped stops same) is = absurd stops
      by_kind (WriteFault role) (calls.wrote inputs products read passed gives writes) is =
          of_files (rose_later _ _ _ passed.only.write_faults writes.rose)
      by_kind OutFault (calls.stopped stops same) is = absurd stops
      by_kind OutFault (calls.wrote inputs products read passed gives writes) is = of_out writes.rose
      by_kind (NoMemory _) performed is = absurd (cc)

      by_ending : (ending : Ending) → Performs work ending (seen_of old) (seen_of new) → StatusIs ending status
          → HasFailedWrite old new
      by_ending ending performed (of_ending is) = by_kind ending performed (sym is ∙ failed)
      by_ending ending performed (of_memory is) = let never : exit.NoMemory out_of_memory ≡ exit.WriteFault = sym is ∙ failed in absurd (cc)
