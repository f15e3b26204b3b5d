-- What the files hold is refused where it leads to a refusal, and nothing else comes in its place, unless a read or write fails or memory
-- runs out; and each status of a refusal has its refusal.
use Rattle.std.proofs.Common.{◌≡◌, ℕ, List, [], ◌∷◌, ◌++◌, Option, refl, sym, ap, subst, ◌∙◌}
use Rattle.pd_base.specs.Memory.{out_of_memory}
use Rattle.pd_io.specs.Folder.{Folder}
use Rattle.pd_io.specs.Seen.{SinkSeen, Outside, seen_of}
use Rattle.pd_io.proofs.Tellings.{tells_weaker}
use Rattle.calls.specs.declared.cause.Cause.{Cause}
use Rattle.calls.specs.declared.cause.Cause.TheVariants as causes
use Rattle.calls.specs.declared.refusal.Refusal.{Refusal}
use Rattle.calls.specs.declared.ending.Ending.{Ending}
use Rattle.calls.specs.declared.ending.Ending.TheVariants.{Done, Refused, ReadFault, WriteFault, OutFault, NoMemory}
use Rattle.calls.specs.declared.status.Status.{Status}
use Rattle.calls.specs.declared.status.Status.TheVariants as exit
use Rattle.calls.specs.Lines.{status_for, status_of}
use Rattle.calls.specs.Reports.{IsReported}
use Rattle.calls.specs.Reports as reports
use Rattle.calls.specs.Work.{Work, Stage, Require, names_read}
use Rattle.calls.specs.Passing.{AsksOnly, Pass}
use Rattle.calls.specs.Stopping.{IsRefused}
use Rattle.calls.specs.Calls.{AreTold, Performs, Ends, NoneFailed}
use Rattle.calls.specs.Calls as calls
use Rattle.calls.specs.Laws.{AnswersRefusal, IsUntouched, LeadsToRefusal, WasRefused}
use Rattle.calls.specs.Laws as laws
use Rattle.calls.proofs.Acceptance.{passed_alike, accepted_before}
use Rattle.calls.proofs.Outputs.{rose_later}
use Rattle.calls.proofs.Splits.{Places, compared}
use Rattle.calls.proofs.Splits as places
use Rattle.calls.proofs.Calls.{refusal_status, stage_behind, told_before}

-- the endings of a call that this requirement refuses
data EndsRefused (work : Work) (requirement : work.Requirement) (inputs : List (List ℕ)) (ending : Ending) : Type 0 where
  by_refusal : (refusal : Refusal) → ending ≡ Refused refusal → work.Refuses requirement inputs refusal
      → EndsRefused work requirement inputs ending
  by_memory : ending ≡ NoMemory out_of_memory → EndsRefused work requirement inputs ending

module _ (work : Work) (folder : Option Folder) (first : LeadsToRefusal work folder) where
  -- the names read before the requirement are told
  told_first : AreTold (names_read first.before) folder
  told_first = told_before work folder first.before (Require first.requirement ∷ first.later) first.told first.place

  -- not all stages are passed
  not_all_passed : (all : List (List ℕ)) → Pass work folder work.stages [] all → ⊥
  not_all_passed all pass =
      accepted_before work folder first.before first.later first.requirement [] first.inputs all told_first
      (subst (λ (stages : List (Stage work.Requirement)). Pass work folder stages [] all) first.place pass) first.passed first.refusal
      first.refuses

  -- a refusal behind other stages that are passed is one behind these
  at_the_same_requirement : (requirement : work.Requirement) (refusal : Refusal) (before later : List (Stage work.Requirement))
      (inputs : List (List ℕ)) → work.stages ≡ before ++ Require requirement ∷ later → Pass work folder before [] inputs
      → work.Refuses requirement inputs refusal → Places first.before before (Require first.requirement) (Require requirement)
      → work.Refuses first.requirement first.inputs refusal
  at_the_same_requirement requirement refusal before later inputs place passed refuses (places.same stages is) =
      let same : requirement ≡ first.requirement = cc in
      let read = passed_alike work folder first.before [] inputs first.inputs told_first
      (subst (λ (s : List (Stage work.Requirement)). Pass work folder s [] inputs) (sym stages) passed) first.passed in
      subst (λ (r : work.Requirement). work.Refuses r first.inputs refusal) same
      (subst (λ (r : List (List ℕ)). work.Refuses requirement r refusal) read refuses)
  at_the_same_requirement requirement refusal before later inputs place passed refuses (places.before between stages) =
      absurd (accepted_before work folder first.before between first.requirement [] first.inputs inputs told_first
      (subst (λ (s : List (Stage work.Requirement)). Pass work folder s [] inputs) stages passed) first.passed first.refusal first.refuses)
  at_the_same_requirement requirement refusal before later inputs place passed refuses (places.behind between stages) =
      absurd (accepted_before work folder before between requirement [] inputs first.inputs
      (told_before work folder before (Require requirement ∷ later) first.told place)
      (subst (λ (s : List (Stage work.Requirement)). Pass work folder s [] first.inputs) stages first.passed) passed refusal refuses)

  -- what is refused at all is refused by this requirement
  pub refused_by_it : (refusal : Refusal) (old new : Outside) → old.files.folder ≡ folder → IsRefused work refusal old.files new.files
      → work.Refuses first.requirement first.inputs refusal
  refused_by_it refusal old new tells it =
      let place = stage_behind it.before it.place.0 work.stages (Require it.requirement) it.place.1 in
      at_the_same_requirement it.requirement refusal it.before it.place.0 it.inputs place
      (subst (λ (f : Option Folder). Pass work f it.before [] it.inputs) tells it.passed.passed) it.refuses
      (compared first.before first.later it.before it.place.0 (Require first.requirement) (Require it.requirement)
      (sym first.place ∙ place))

  -- a call over such files, of which nothing failed, ends so
  ends_refused : (old new : Outside) (ending : Ending) → old.files.folder ≡ folder → NoneFailed old new
      → Performs work ending (seen_of old) (seen_of new) → EndsRefused work first.requirement first.inputs ending
  ends_refused old new ending tells none (calls.wrote inputs products read passed gives writes) =
      absurd (not_all_passed inputs
      (subst (λ (f : Option Folder). Pass work f work.stages [] inputs) tells passed.passed))
  ends_refused old new Done tells none (calls.stopped stops same) = absurd stops
  ends_refused old new (Refused refusal) tells none (calls.stopped stops same) =
      by_refusal refusal refl (refused_by_it refusal old new tells stops)
  ends_refused old new (ReadFault role) tells none (calls.stopped stops same) = absurd (none.read stops.rose)
  ends_refused old new (WriteFault role) tells none (calls.stopped stops same) = absurd stops
  ends_refused old new OutFault tells none (calls.stopped stops same) = absurd stops
  ends_refused old new (NoMemory _) tells none (calls.stopped stops same) = by_memory refl

  -- such an ending is reported
  answered_so : (ending : Ending) (status : Status) (old new : SinkSeen) → IsReported ending status old new
      → EndsRefused work first.requirement first.inputs ending → AnswersRefusal work first.requirement first.inputs status old new
  answered_so ending status old new reported (by_refusal refusal is refuses) =
      laws.refused refusal refuses (subst (λ (e : Ending). IsReported e status old new) is reported)
  answered_so ending status old new (reports.nothing is done same) (by_memory none) =
      let never : Done ≡ (NoMemory out_of_memory) = sym is ∙ none in absurd (cc)
  answered_so ending status old new (reports.whole other is line) (by_memory none) = laws.no_memory (is ∙ ap status_of none)
  answered_so ending status old new (reports.cut other is part) (by_memory none) = laws.no_memory (is ∙ ap status_of none)
  answered_so ending status old new (reports.no_memory other is part) (by_memory none) = laws.no_memory is

  -- Where nothing failed, a call that the files lead to a refusal is answered by that requirement, or by want of memory.
  pub refusal_answered : (status : Status) (old new : Outside) → Ends work status old new → old.files.folder ≡ folder
      → NoneFailed old new → AnswersRefusal work first.requirement first.inputs status old.err new.err
  refusal_answered status old new ends tells none =
      answered_so ends.ending status old.err new.err ends.reported (ends_refused old new ends.ending tells none ends.performed)

-- a call that was refused left all as it was
pub untouched : (work : Work) (refusal : Refusal) (old new : Outside) → IsRefused work refusal old.files new.files → new.out ≡ old.out
    → IsUntouched old new
untouched work refusal old new it out = record {
  held = tells_weaker old.files.folder new.files.folder (AsksOnly (names_read it.before)) (λ before after. after.held ≡ before.held)
      it.passed.asked (λ before after asks. ap (λ (f : Folder). f.held) asks);
  writer = it.passed.only.writer;
  read_faults = it.passed.only.read_faults;
  write_faults = it.passed.only.write_faults;
  out = out;
}

-- the cause whose status this is
cause_of : Status → Cause
cause_of exit.Words = causes.Words
cause_of exit.Netlist = causes.Netlist
cause_of exit.Delays = causes.Delays
cause_of exit.Size = causes.Size
cause_of exit.Scan = causes.Scan
cause_of exit.Pair = causes.Pair
cause_of exit.Log = causes.Log
cause_of status = causes.Claims

-- each cause has a status of its own
cause_of-status_for : (cause : Cause) → cause_of (status_for cause) ≡ cause
unfolding cause_of
cause_of-status_for causes.Claims = refl
cause_of-status_for causes.Words = refl
cause_of-status_for causes.Netlist = refl
cause_of-status_for causes.Delays = refl
cause_of-status_for causes.Size = refl
cause_of-status_for causes.Scan = refl
cause_of-status_for causes.Pair = refl
cause_of-status_for causes.Log = refl

one_cause : (first second : Cause) → status_for first ≡ status_for second → first ≡ second
one_cause first second same = sym (cause_of-status_for first) ∙ ap cause_of same ∙ cause_of-status_for second

module _ (work : Work) (cause : Cause) (status : Status) (old new : Outside) (of : status ≡ status_for cause) where
  -- a status of refusals is reported of a refusal alone
  by_status : (ending : Ending) → Performs work ending (seen_of old) (seen_of new) → status ≡ status_of ending
      → IsReported ending status old.err new.err → WasRefused work cause status old new
  by_status Done performed is reported = absurd (refusal_status cause exit.Done (sym of ∙ is))
  by_status (Refused refusal) (calls.stopped stops same) is reported = record {
    refusal = refusal;
    of_cause = one_cause refusal.cause cause (sym is ∙ of);
    refused = stops;
    reported = reported;
    untouched = untouched work refusal old new stops same;
  }
  by_status (Refused refusal) (calls.wrote inputs products read passed gives writes) is reported = absurd writes
  by_status (ReadFault role) performed is reported = absurd (refusal_status cause exit.ReadFault (sym of ∙ is))
  by_status (WriteFault role) performed is reported = absurd (refusal_status cause exit.WriteFault (sym of ∙ is))
  by_status OutFault performed is reported = absurd (refusal_status cause exit.WriteFault (sym of ∙ is))
  by_status (NoMemory refused) performed is reported = absurd (refusal_status cause (exit.NoMemory refused) (sym of ∙ is))

  by_report : (ending : Ending) → Performs work ending (seen_of old) (seen_of new)
      → IsReported ending status old.err new.err → IsReported ending status old.err new.err → WasRefused work cause status old new
  by_report ending performed (reports.nothing is done same) reported = absurd (refusal_status cause exit.Done (sym of ∙ done))
  by_report ending performed (reports.whole other is line) reported = by_status ending performed is reported
  by_report ending performed (reports.cut other is part) reported = by_status ending performed is reported
  by_report ending performed (reports.no_memory other is part) reported = absurd (refusal_status cause (exit.NoMemory out_of_memory) (sym of ∙ is))

  -- the status of refusals for a cause has such a refusal
  pub was_refused : Ends work status old new → WasRefused work cause status old new
  was_refused ends = by_report ends.ending ends.performed ends.reported ends.reported

-- a refusal, and the status of its cause
pub record HasRefusal (work : Work) (status : Status) (old new : Outside) : Type 0 where
  pub refusal : Refusal
  pub status_is : status ≡ status_for refusal.cause
  pub refused : IsRefused work refusal old.files new.files

module _ (work : Work) (status : Status) (old new : Outside) (none : NoneFailed old new) (not_done : status ≡ exit.Done → ⊥)
    (not_memory : status ≡ exit.NoMemory out_of_memory → ⊥) where
  -- the status is that of the ending
  of_ending : (ending : Ending) → IsReported ending status old.err new.err → status ≡ status_of ending
  of_ending ending (reports.nothing is done same) = absurd (not_done done)
  of_ending ending (reports.whole other is line) = is
  of_ending ending (reports.cut other is part) = is
  of_ending ending (reports.no_memory other is part) = absurd (not_memory is)

  by_kind : (ending : Ending) → Performs work ending (seen_of old) (seen_of new) → status ≡ status_of ending → HasRefusal work status old new
  by_kind Done performed is = absurd (not_done is)
  by_kind (Refused refusal) (calls.stopped stops same) is = record { refusal = refusal; status_is = is; refused = stops }
  by_kind (Refused refusal) (calls.wrote inputs products read passed gives writes) is = absurd writes
  by_kind (ReadFault role) (calls.stopped stops same) is = absurd (none.read stops.rose)
  by_kind (ReadFault role) (calls.wrote inputs products read passed gives writes) is = absurd writes
  by_kind (WriteFault role) (calls.stopped stops same) is = absurd stops
  by_kind (WriteFault role) (calls.wrote inputs products read passed gives writes) is =
      absurd (none.write (rose_later _ _ _ passed.only.write_faults writes.rose))
  by_kind OutFault (calls.stopped stops same) is = absurd stops
  by_kind OutFault (calls.wrote inputs products read passed gives writes) is = absurd (none.out writes.rose)
  by_kind (NoMemory _) performed is = absurd (not_memory is)

  -- where nothing failed and memory sufficed, a call that was not done was refused
  pub has_refusal : Ends work status old new → HasRefusal work status old new
  has_refusal ends = by_kind ends.ending ends.performed (of_ending ends.ending ends.reported)
