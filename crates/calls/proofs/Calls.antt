-- What follows for a whole call of any command from how it performed and was reported.
use Rattle.std.proofs.Common.{◌≡◌, ℕ, List, [], ◌∷◌, ◌++◌, Option, refl, sym, ap, subst, ◌∙◌, append_assoc}
use Rattle.std.specs.Prelude.{⊤}
use Rattle.pd_base.specs.Memory.{out_of_memory}
use Rattle.pd_io.specs.Folder.{Folder}
use Rattle.pd_io.specs.Seen.{FilesSeen, SinkSeen, Outside, seen_of}
use Rattle.pd_io.proofs.Tellings.{tells_chain}
use Rattle.calls.specs.declared.cause.Cause.{Cause}
use Rattle.calls.specs.declared.cause.Cause.TheVariants as causes
use Rattle.calls.specs.declared.refusal.Refusal.{Refusal}
use Rattle.calls.specs.declared.ending.Ending.{Ending}
use Rattle.calls.specs.declared.ending.Ending.TheVariants.{Done, Refused, ReadFault, WriteFault, OutFault, NoMemory}
use Rattle.calls.specs.declared.status.Status.{Status}
use Rattle.calls.specs.declared.status.Status.TheVariants as exit
use Rattle.calls.specs.Lines.{status_for, status_of}
use Rattle.calls.specs.Reports.{IsReported}
use Rattle.calls.specs.Reports as reports
use Rattle.calls.specs.Work.{Work, Stage, Require, names_read}
use Rattle.calls.specs.Passing.{Pass, AsksOnly}
use Rattle.calls.specs.Stopping.{IsRefused}
use Rattle.calls.specs.Writing.{put_all, folder_with_all, writer_after}
use Rattle.calls.specs.Calls.{Performs, Ends, IsDone, AreTold, HasAcceptedInputs, NoneFailed, IsDoneOrNoMemory}
use Rattle.calls.specs.Calls as calls
use Rattle.calls.proofs.Outputs.{rose_later}
use Rattle.calls.proofs.Acceptance.{accepted_before, front_told}
use Rattle.calls.proofs.Stages.{names_read-append}

-- the statuses that refusals have
abbrev pub IsOfRefusal : Status → Type 0
IsOfRefusal exit.Done = ⊥
IsOfRefusal exit.ReadFault = ⊥
IsOfRefusal exit.WriteFault = ⊥
IsOfRefusal (exit.NoMemory _) = ⊥
IsOfRefusal status = ⊤

-- for each cause it is one of them
is_of_refusal : (cause : Cause) → IsOfRefusal (status_for cause)
is_of_refusal causes.Claims = tt
is_of_refusal cause = tt

-- so it is none of the others
pub refusal_status : (cause : Cause) (status : Status) → status_for cause ≡ status → IsOfRefusal status
refusal_status cause status is = subst IsOfRefusal is (is_of_refusal cause)

-- no ending but `Done` has its status
done_alone : (ending : Ending) → (ending ≡ Done → ⊥) → status_of ending ≡ exit.Done → ⊥
done_alone Done other same = other refl
done_alone (Refused refusal) other same = refusal_status refusal.cause exit.Done same
done_alone (ReadFault role) other same = cc
done_alone (WriteFault role) other same = cc
done_alone OutFault other same = cc
done_alone (NoMemory _) other same = cc

-- the status of work that was done is reported of no other ending, and leaves err as it is
reported_done : (ending : Ending) (old new : SinkSeen) → IsReported ending exit.Done old new
    → (ending ≡ Done) × (new ≡ old)
reported_done ending old new (reports.nothing is done same) = (is, same)
reported_done ending old new (reports.whole other status line) = absurd (done_alone ending other (sym status))
reported_done ending old new (reports.cut other status part) = absurd (done_alone ending other (sym status))
reported_done ending old new (reports.no_memory other status part) =
    let none : exit.Done ≡ (exit.NoMemory out_of_memory) = status in absurd (cc)

-- work that came to its end was done
performed_done : (work : Work) (old new : Outside) → Performs work Done (seen_of old) (seen_of new) → new.err ≡ old.err
    → IsDone work old new
performed_done work old new (calls.stopped stops same) err = absurd stops
performed_done work old new (calls.wrote inputs products read passed gives writes) err = record {
  inputs = inputs;
  products = products;
  passed = passed.passed;
  gives = gives;
  files = tells_chain old.files.folder read.folder new.files.folder (AsksOnly (names_read work.stages))
      (λ before after. after ≡ folder_with_all products.files before)
      (λ before after.
      after ≡ record { held = put_all before.held products.files; asked = before.asked ++ names_read work.stages })
      passed.asked writes.files.told
      (λ x y z asked whole. whole ∙ ap (folder_with_all products.files) asked);
  out = writes.out;
  err = err;
  writer = writes.files.writer ∙ ap (writer_after products.files) passed.only.writer;
  read_faults = writes.files.read_faults ∙ passed.only.read_faults;
  write_faults = writes.files.write_faults ∙ passed.only.write_faults;
  out_faults = writes.out_faults;
}

-- status 0: the work was done
pub is_done : (work : Work) (status : Status) (old new : Outside) → Ends work status old new → status ≡ exit.Done
    → IsDone work old new
is_done work status old new ends done =
    let reported : IsReported ends.ending exit.Done old.err new.err =
    subst (λ (s : Status). IsReported ends.ending s old.err new.err) done ends.reported in
    let p = reported_done ends.ending old.err new.err reported in
    performed_done work old new (subst (λ (e : Ending). Performs work e (seen_of old) (seen_of new)) p.0 ends.performed) p.1

-- the place of a requirement, without the stages behind it
pub stage_behind : {R : Type 0} (before rest stages : List (Stage R)) (stage : Stage R) → stages ≡ (before ++ stage ∷ []) ++ rest
    → stages ≡ before ++ stage ∷ rest
stage_behind before rest stages stage place = place ∙ append_assoc before (stage ∷ []) rest

-- the names that these stages read are told, where all names of the work are
pub told_before : (work : Work) (folder : Option Folder) (before rest : List (Stage work.Requirement)) → AreTold (names_read work.stages) folder
    → work.stages ≡ before ++ rest → AreTold (names_read before) folder
told_before work folder before rest told place =
    front_told folder (names_read before) (names_read rest)
    (subst (λ (names : List (List ℕ)). AreTold names folder) (ap names_read place ∙ names_read-append before rest) told)

-- no requirement refuses inputs with which all stages are passed
pub accepted_not_refused : (work : Work) (refusal : Refusal) (old new : FilesSeen)
    → HasAcceptedInputs work old.folder → IsRefused work refusal old new → ⊥
accepted_not_refused work refusal old new accepted it =
    let behind = stage_behind it.before it.place.0 work.stages (Require it.requirement) it.place.1 in
    accepted_before work old.folder it.before it.place.0 it.requirement [] it.inputs accepted.inputs
    (told_before work old.folder it.before (Require it.requirement ∷ it.place.0) accepted.told behind)
    (subst (λ (stages : List (Stage work.Requirement)). Pass work old.folder stages [] accepted.inputs) behind accepted.passed)
    it.passed.passed refusal it.refuses

-- the endings to which a call comes that nothing stops but want of memory
data EndsDoneOrNoMemory (ending : Ending) : Type 0 where
  is_done_ending : ending ≡ Done → EndsDoneOrNoMemory ending
  is_memory_ending : ending ≡ NoMemory out_of_memory → EndsDoneOrNoMemory ending

-- where nothing failed and the inputs are accepted, a call ends so
ends_so : (work : Work) (old new : Outside) (ending : Ending) → Performs work ending (seen_of old) (seen_of new)
    → HasAcceptedInputs work old.files.folder → NoneFailed old new → EndsDoneOrNoMemory ending
ends_so work old new Done performed accepted none = is_done_ending refl
ends_so work old new (Refused refusal) (calls.stopped stops same) accepted none =
    absurd (accepted_not_refused work refusal old.files new.files accepted stops)
ends_so work old new (Refused refusal) (calls.wrote inputs products read passed gives writes) accepted none = absurd writes
ends_so work old new (ReadFault role) (calls.stopped stops same) accepted none = absurd (none.read stops.rose)
ends_so work old new (ReadFault role) (calls.wrote inputs products read passed gives writes) accepted none = absurd writes
ends_so work old new (WriteFault role) (calls.stopped stops same) accepted none = absurd stops
ends_so work old new (WriteFault role) (calls.wrote inputs products read passed gives writes) accepted none =
    absurd (none.write (rose_later _ _ _ passed.only.write_faults writes.rose))
ends_so work old new OutFault (calls.stopped stops same) accepted none = absurd stops
ends_so work old new OutFault (calls.wrote inputs products read passed gives writes) accepted none =
    absurd (none.out writes.rose)
ends_so work old new (NoMemory _) performed accepted none = is_memory_ending refl

-- the status of such an ending
status_so : (ending : Ending) (status : Status) (old new : SinkSeen) → IsReported ending status old new
    → EndsDoneOrNoMemory ending → IsDoneOrNoMemory status
status_so ending status old new (reports.nothing is done same) so = calls.done done
status_so ending status old new (reports.whole other is line) (is_done_ending done) = absurd (other done)
status_so ending status old new (reports.whole other is line) (is_memory_ending none) = calls.no_memory (is ∙ ap status_of none)
status_so ending status old new (reports.cut other is part) (is_done_ending done) = absurd (other done)
status_so ending status old new (reports.cut other is part) (is_memory_ending none) = calls.no_memory (is ∙ ap status_of none)
status_so ending status old new (reports.no_memory other is part) so = calls.no_memory is

-- where nothing failed and the inputs are accepted, the status is 0, or that of want of memory
pub completes : (work : Work) (status : Status) (old new : Outside) → Ends work status old new
    → HasAcceptedInputs work old.files.folder → NoneFailed old new → IsDoneOrNoMemory status
completes work status old new ends accepted none =
    status_so ends.ending status old.err new.err ends.reported
    (ends_so work old new ends.ending ends.performed accepted none)
