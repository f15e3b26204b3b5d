-- Inputs read and judged behind a front of stages of which only the mode tells what they are: what is passed then, and how the call ends there.
-- The lemmas are those of StageReads.antt, with the stages of the front kept apart from those behind it, and so with their inputs.
use Rattle.std.proofs.Common.{◌≡◌, ℕ, List, [], ◌∷◌, ◌++◌, sym, ap, subst, ◌∙◌, append_assoc}
use Rattle.std.specs.Prelude.{Vec}
use Rattle.std.specs.declared.alloc.Global.{Global}
use Rattle.pd_io.specs.Seen.{FilesSeen}
use Rattle.calls.specs.declared.role.Role.{Role}
use Rattle.calls.specs.declared.refusal.Refusal.{Refusal}
use Rattle.calls.specs.declared.ending.Ending.{Ending}
use Rattle.calls.specs.Work.{Stage, Read, Require}
use Rattle.calls.specs.Passing.{Accepts, HasPassed}
use Rattle.calls.specs.Stopping.{Stops}
use Rattle.calls.proofs.Stages.{then_required}
use Rattle.commands.specs.Inside.InputJudging.{FailsFor, FailsWithin, ReadsWithin}
use Rattle.commands.specs.InputRequirements.{InputCommand, RefusesInputs, Requirement, WithinLimit, read_stages, work_on_inputs}
use Rattle.commands.proofs.StageReads.{stops_judged, stops_unwhole, then_whole}

module _ (command : InputCommand) (front : List (Stage (Requirement command.Own))) where
  -- stages that were passed, in the one form and in the other
  apart : {inputs : List (List ℕ)} {old new : FilesSeen} (more last : List (Stage (Requirement command.Own)))
      → HasPassed (work_on_inputs command) ((front ++ more) ++ last) inputs old new
      → HasPassed (work_on_inputs command) (front ++ (more ++ last)) inputs old new
  apart {inputs} {old} {new} more last passed =
      subst (λ (stages : List (Stage (Requirement command.Own))). HasPassed (work_on_inputs command) stages inputs old new)
      (append_assoc front more last) passed

  -- an input was read whole
  pub whole_behind : {inputs : List (List ℕ)} {old mid new : FilesSeen} (more : List (Stage (Requirement command.Own))) (input : Role)
      (name : List ℕ) (read : Vec ℕ Global) → HasPassed (work_on_inputs command) (front ++ more) inputs old mid
      → ReadsWithin input name read mid new
      → HasPassed (work_on_inputs command) (front ++ (more ++ read_stages input name)) (inputs ++ read.items ∷ []) old new
  whole_behind {inputs} {old} {mid} {new} more input name read before it =
      apart more (read_stages input name)
      (subst (λ (stages : List (Stage (Requirement command.Own))).
      HasPassed (work_on_inputs command) stages (inputs ++ read.items ∷ []) old new)
      (append_assoc (front ++ more) (Read input name ∷ []) (Require (WithinLimit input) ∷ []))
      (then_whole command input name read before it))

  -- and another one behind it
  pub more_whole_behind : {old mid new : FilesSeen} (inputs read_before : List (List ℕ)) (more : List (Stage (Requirement command.Own)))
      (input : Role) (name : List ℕ) (read : Vec ℕ Global)
      → HasPassed (work_on_inputs command) (front ++ more) (inputs ++ read_before) old mid → ReadsWithin input name read mid new
      → HasPassed (work_on_inputs command) (front ++ (more ++ read_stages input name)) (inputs ++ (read_before ++ read.items ∷ [])) old new
  more_whole_behind {old} {mid} {new} inputs read_before more input name read before it =
      subst (λ (all : List (List ℕ)). HasPassed (work_on_inputs command) (front ++ (more ++ read_stages input name)) all old new)
      (append_assoc inputs read_before (read.items ∷ [])) (whole_behind more input name read before it)

  -- it was not
  pub unwhole_behind : {inputs : List (List ℕ)} {old mid new : FilesSeen} (more behind : List (Stage (Requirement command.Own))) (input : Role)
      (name : List ℕ) (ending : Ending) → HasPassed (work_on_inputs command) (front ++ more) inputs old mid
      → command.stages ≡ front ++ (more ++ (read_stages input name ++ behind)) → FailsWithin input name ending mid new
      → Stops (work_on_inputs command) ending old new
  unwhole_behind {inputs} {old} {mid} {new} more behind input name ending before place fails =
      stops_unwhole command input name ending before (
        behind,
        place
            ∙ sym (append_assoc front more (read_stages input name ++ behind))
            ∙ sym (append_assoc (front ++ more) (read_stages input name) behind)
            ∙ ap (λ (stages : List (Stage (Requirement command.Own))). stages ++ behind)
            (sym (append_assoc (front ++ more) (Read input name ∷ []) (Require (WithinLimit input) ∷ []))),
      ) fails

  -- what was read meets one more requirement
  pub required_behind : {inputs : List (List ℕ)} {old new : FilesSeen} (more : List (Stage (Requirement command.Own)))
      (requirement : Requirement command.Own) → HasPassed (work_on_inputs command) (front ++ more) inputs old new
      → Accepts (work_on_inputs command) requirement inputs
      → HasPassed (work_on_inputs command) (front ++ (more ++ Require requirement ∷ [])) inputs old new
  required_behind more requirement before accepts =
      apart more (Require requirement ∷ []) (then_required (work_on_inputs command) requirement before accepts)

  -- it was judged, and gives nothing
  pub judged_behind : {inputs : List (List ℕ)} {old new : FilesSeen} (more behind : List (Stage (Requirement command.Own)))
      (requirement : Requirement command.Own) (Refuses : Refusal → Type 0) (ending : Ending)
      → HasPassed (work_on_inputs command) (front ++ more) inputs old new → command.stages ≡ front ++ (more ++ Require requirement ∷ behind)
      → ((refusal : Refusal) → Refuses refusal → RefusesInputs command requirement inputs refusal) → FailsFor Refuses ending
      → Stops (work_on_inputs command) ending old new
  judged_behind more behind requirement Refuses ending before place so fails =
      stops_judged command requirement Refuses ending before (
        behind,
        place
            ∙ sym (append_assoc front more (Require requirement ∷ behind))
            ∙ sym (append_assoc (front ++ more) (Require requirement ∷ []) behind),
      ) so fails
