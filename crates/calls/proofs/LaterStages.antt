-- A call whose first stages are passed, as the files tell: what it is refused for stands behind them; and where one requirement is left,
-- which refusal it is.
use Rattle.std.proofs.Common.{◌≡◌, ℕ, List, [], ◌∷◌, ◌++◌, Option, refl, sym, ap, subst, ◌∙◌, append_assoc}
use Rattle.std.proofs.lemmas.List.{append-nil, append_cancel_left}
use Rattle.pd_base.specs.Memory.{out_of_memory}
use Rattle.pd_io.specs.Folder.{Folder}
use Rattle.pd_io.specs.Seen.{FilesSeen, Outside, seen_of}
use Rattle.calls.specs.declared.refusal.Refusal.{Refusal}
use Rattle.calls.specs.declared.ending.Ending.{Ending}
use Rattle.calls.specs.declared.ending.Ending.TheVariants.{Done, NoMemory, OutFault, ReadFault, Refused, WriteFault}
use Rattle.calls.specs.declared.status.Status.{Status}
use Rattle.calls.specs.Passing.{Pass}
use Rattle.calls.specs.Reports.{IsReported}
use Rattle.calls.specs.Reports as reports
use Rattle.calls.specs.Stopping.{IsRefused}
use Rattle.calls.specs.Work.{names_read, Require, Stage, Work}
use Rattle.calls.specs.Calls.{AreTold, Ends, NoneFailed, Performs}
use Rattle.calls.specs.Calls as calls
use Rattle.calls.specs.Laws.{AnswersAt}
use Rattle.calls.specs.Laws as laws
use Rattle.calls.proofs.Acceptance.{accepted_before, passed_alike}
use Rattle.calls.proofs.Calls.{stage_behind, told_before}
use Rattle.calls.proofs.Outputs.{rose_later}
use Rattle.calls.proofs.Splits.{compared, Places}
use Rattle.calls.proofs.Splits as places

-- these inputs are refused by a requirement among later stages, behind first ones and some of the later
pub record IsRefusedLater (work : Work) (folder : Option Folder) (front later : List (Stage work.Requirement)) (refusal : Refusal)
    : Type 0 where
  pub between : List (Stage work.Requirement)
  pub requirement : work.Requirement
  pub rest : List (Stage work.Requirement)
  pub place : later ≡ between ++ Require requirement ∷ rest
  pub inputs : List (List ℕ)
  pub passed : Pass work folder (front ++ between) [] inputs
  pub refuses : work.Refuses requirement inputs refusal

module _ (work : Work) (folder : Option Folder) (front : List (Stage work.Requirement)) (inputs : List (List ℕ))
    (told : AreTold (names_read work.stages) folder) (passed : Pass work folder front [] inputs) where
  -- no requirement among the first stages refuses
  not_in_front : (requirement : work.Requirement) (refusal : Refusal) (before between later : List (Stage work.Requirement))
      (read : List (List ℕ)) → work.stages ≡ before ++ Require requirement ∷ later → front ≡ before ++ Require requirement ∷ between
      → Pass work folder before [] read → work.Refuses requirement read refusal → ⊥
  not_in_front requirement refusal before between later read place stages pass refuses =
      accepted_before work folder before between requirement [] read inputs
      (told_before work folder before (Require requirement ∷ later) told place)
      (subst (λ (s : List (Stage work.Requirement)). Pass work folder s [] inputs) stages passed) pass refusal refuses

  -- so it stands among the later ones
  refused_there : (stage : Stage work.Requirement) (more : List (Stage work.Requirement)) → work.stages ≡ front ++ stage ∷ more
      → (requirement : work.Requirement) (refusal : Refusal) (before rest : List (Stage work.Requirement)) (read : List (List ℕ))
      → work.stages ≡ before ++ Require requirement ∷ rest → Pass work folder before [] read → work.Refuses requirement read refusal
      → Places front before stage (Require requirement) → IsRefusedLater work folder front (stage ∷ more) refusal
  refused_there stage more here requirement refusal before rest read place pass refuses (places.same stages is) = record {
    between = [];
    requirement = requirement;
    rest = rest;
    place = append_cancel_left front (stage ∷ more) (Require requirement ∷ rest)
        (sym here ∙ place ∙ ap (λ (s : List (Stage work.Requirement)). s ++ Require requirement ∷ rest) (sym stages));
    inputs = read;
    passed = subst (λ (s : List (Stage work.Requirement)). Pass work folder s [] read) (sym (append-nil front ∙ stages)) pass;
    refuses = refuses;
  }
  refused_there stage more here requirement refusal before rest read place pass refuses (places.before between stages) = record {
    between = stage ∷ between;
    requirement = requirement;
    rest = rest;
    place = append_cancel_left front (stage ∷ more) (stage ∷ between ++ Require requirement ∷ rest)
        (sym here ∙ place ∙ ap (λ (s : List (Stage work.Requirement)). s ++ Require requirement ∷ rest) stages
        ∙ append_assoc front (stage ∷ between) (Require requirement ∷ rest));
    inputs = read;
    passed = subst (λ (s : List (Stage work.Requirement)). Pass work folder s [] read) stages pass;
    refuses = refuses;
  }
  refused_there stage more here requirement refusal before rest read place pass refuses (places.behind between stages) =
      absurd (not_in_front requirement refusal before between rest read place stages pass refuses)

  -- what such a call is refused for stands behind the first stages
  pub refused_later : (stage : Stage work.Requirement) (more : List (Stage work.Requirement)) → work.stages ≡ front ++ stage ∷ more
      → (refusal : Refusal) (old new : FilesSeen) → old.folder ≡ folder → IsRefused work refusal old new
      → IsRefusedLater work folder front (stage ∷ more) refusal
  refused_later stage more here refusal old new tells it =
      let place = stage_behind it.before it.place.0 work.stages (Require it.requirement) it.place.1 in
      refused_there stage more here it.requirement refusal it.before it.place.0 it.inputs place
      (subst (λ (f : Option Folder). Pass work f it.before [] it.inputs) tells it.passed.passed) it.refuses
      (compared front more it.before it.place.0 stage (Require it.requirement) (sym here ∙ place))

  -- where one requirement is left, it refuses
  module _ (last : work.Requirement) (here : work.stages ≡ front ++ Require last ∷ []) where
    by_the_last : (refusal : Refusal) → IsRefusedLater work folder front (Require last ∷ []) refusal → work.Refuses last inputs refusal
    by_the_last refusal it = at it.between it.place it.passed where
      at : (between : List (Stage work.Requirement)) → Require last ∷ [] ≡ between ++ Require it.requirement ∷ it.rest
          → Pass work folder (front ++ between) [] it.inputs → work.Refuses last inputs refusal
      at [] place pass =
          let same : it.requirement ≡ last = cc in
          let read = passed_alike work folder front [] it.inputs inputs (told_before work folder front (Require last ∷ []) told here)
          (subst (λ (s : List (Stage work.Requirement)). Pass work folder s [] it.inputs) (append-nil front) pass) passed in
          subst (λ (r : work.Requirement). work.Refuses r inputs refusal) same
          (subst (λ (r : List (List ℕ)). work.Refuses it.requirement r refusal) read it.refuses)
      at (one ∷ []) place pass = absurd cc
      at (one ∷ two ∷ between) place pass = absurd cc

    pub refused_by_last : (refusal : Refusal) (old new : FilesSeen) → old.folder ≡ folder → IsRefused work refusal old new
        → work.Refuses last inputs refusal
    refused_by_last refusal old new tells it = by_the_last refusal (refused_later (Require last) [] here refusal old new tells it)

    ends_so : (old new : Outside) (ending : Ending) → old.files.folder ≡ folder → NoneFailed old new
        → Performs work ending (seen_of old) (seen_of new) → (status : Status) → IsReported ending status old.err new.err
        → AnswersAt work last inputs status old.err new.err
    ends_so old new Done tells none performed status (reports.nothing is exit_is same) = laws.done (calls.done exit_is)
    ends_so old new Done tells none performed status (reports.whole other is line) = absurd (other refl)
    ends_so old new Done tells none performed status (reports.cut other is part) = absurd (other refl)
    ends_so old new Done tells none performed status (reports.no_memory other is part) = absurd (other refl)
    ends_so old new (Refused refusal) tells none (calls.stopped stops same) status reported =
        laws.refused_last refusal (refused_by_last refusal old.files new.files tells stops) reported
    ends_so old new (Refused refusal) tells none (calls.wrote read products mid pass gives writes) status reported = absurd writes
    ends_so old new (ReadFault role) tells none (calls.stopped stops same) status reported = absurd (none.read stops.rose)
    ends_so old new (ReadFault role) tells none (calls.wrote read products mid pass gives writes) status reported = absurd writes
    ends_so old new (WriteFault role) tells none (calls.stopped stops same) status reported = absurd stops
    ends_so old new (WriteFault role) tells none (calls.wrote read products mid pass gives writes) status reported =
        absurd (none.write (rose_later _ _ _ pass.only.write_faults writes.rose))
    ends_so old new OutFault tells none (calls.stopped stops same) status reported = absurd stops
    ends_so old new OutFault tells none (calls.wrote read products mid pass gives writes) status reported = absurd (none.out writes.rose)
    ends_so old new (NoMemory _) tells none performed status (reports.nothing is exit_is same) =
        let never : NoMemory out_of_memory ≡ Done = is in absurd cc
    ends_so old new (NoMemory _) tells none performed status (reports.whole other is line) = laws.done (calls.no_memory is)
    ends_so old new (NoMemory _) tells none performed status (reports.cut other is part) = laws.done (calls.no_memory is)
    ends_so old new (NoMemory _) tells none performed status (reports.no_memory other is part) = laws.done (calls.no_memory is)

    -- where nothing failed, a call of it is answered so
    pub answered_at : (status : Status) (old new : Outside) → Ends work status old new → old.files.folder ≡ folder → NoneFailed old new
        → AnswersAt work last inputs status old.err new.err
    answered_at status old new ends tells none = ends_so old new ends.ending tells none ends.performed status ends.reported
