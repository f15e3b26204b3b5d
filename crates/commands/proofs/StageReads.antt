-- Inputs read and judged, behind stages of a command that were passed: what is passed then, and how the call ends there.
use Rattle.std.proofs.Common.{◌≡◌, ℕ, ◌<◌, ◌≤◌, List, [], ◌∷◌, ◌++◌, length, refl, sym, subst, ◌∙◌, append_assoc, arith}
use Rattle.std.specs.Prelude.{Vec}
use Rattle.std.specs.declared.alloc.Global.{Global}
use Rattle.pd_io.specs.Seen.{FilesSeen}
use Rattle.pd_io.specs.Telling.{IsFrontOf}
use Rattle.calls.specs.declared.role.Role.{Role}
use Rattle.calls.specs.declared.refusal.Refusal.{Refusal}
use Rattle.calls.specs.declared.ending.Ending.{Ending}
use Rattle.calls.specs.Work.{Stage, Read, Require}
use Rattle.calls.specs.Passing.{Accepts, HasBytes, HasPassed}
use Rattle.calls.specs.Stopping.{Stops}
use Rattle.calls.proofs.Stages.{then_read, then_required, stops_refused, stops_for_memory, stops_unread}
use Rattle.commands.specs.Inside.InputJudging.{FailsFor, FailsWithin, ReadsWithin}
use Rattle.commands.specs.Inside.InputJudging as judging
use Rattle.commands.specs.InputRefusals.{too_long}
use Rattle.commands.specs.InputRequirements.{InputCommand, RefusesInputs, Requirement, WithinLimit, last_input, limit_of, work_on_inputs}

-- the last of inputs
last_input-append : (inputs : List (List ℕ)) (text : List ℕ) → last_input (inputs ++ text ∷ []) ≡ text
last_input-append [] text = refl
last_input-append (input ∷ []) text = refl
last_input-append (input ∷ next ∷ more) text = last_input-append (next ∷ more) text

-- an input that was read whole is within its limit
pub read_is_within : (input : Role) (name : List ℕ) (read : Vec ℕ Global) (old new : FilesSeen) → ReadsWithin input name read old new
    → length read.items ≤ limit_of input
read_is_within input name read old new it =
    subst (λ (bytes : List ℕ). length bytes ≤ limit_of input) (sym it.is_read.items) it.is_read.within

-- a front of stages without its last one
pub front_before : {R : Type 0} (stages all : List (Stage R)) (last : Stage R) → IsFrontOf (stages ++ last ∷ []) all → IsFrontOf stages all
front_before stages all last (rest, whole) = (last ∷ rest, whole ∙ append_assoc stages (last ∷ []) rest)

module _ (command : InputCommand) where
  -- an input within its limit is accepted
  pub accepts_size : (input : Role) (inputs : List (List ℕ)) (text : List ℕ) → length text ≤ limit_of input
      → Accepts (work_on_inputs command) (WithinLimit input) (inputs ++ text ∷ [])
  accepts_size input inputs text within refusal it =
      let over = subst (λ (last : List ℕ). limit_of input < length last) (last_input-append inputs text) it.over in omega arith

  -- an input was read, and is within its limit
  pub then_whole : {stages : List (Stage (Requirement command.Own))} {inputs : List (List ℕ)} {old mid new : FilesSeen} (input : Role)
      (name : List ℕ) (read : Vec ℕ Global) → HasPassed (work_on_inputs command) stages inputs old mid → ReadsWithin input name read mid new
      → HasPassed (work_on_inputs command) ((stages ++ Read input name ∷ []) ++ Require (WithinLimit input) ∷ []) (inputs ++ read.items ∷ []) old
      new
  then_whole {stages} {inputs} {old} {mid} {new} input name read before it =
      then_required (work_on_inputs command) (WithinLimit input)
      (then_read (work_on_inputs command) input name read.items before (subst (HasBytes mid.folder name) (sym it.is_read.items) it.has) it.asked
      it.only)
      (accepts_size input inputs read.items (read_is_within input name read mid new it))

  -- it was not
  pub stops_unwhole : {stages : List (Stage (Requirement command.Own))} {inputs : List (List ℕ)} {old mid new : FilesSeen} (input : Role)
      (name : List ℕ) (ending : Ending) → HasPassed (work_on_inputs command) stages inputs old mid
      → IsFrontOf ((stages ++ Read input name ∷ []) ++ Require (WithinLimit input) ∷ []) command.stages
      → FailsWithin input name ending mid new → Stops (work_on_inputs command) ending old new
  stops_unwhole {stages} {inputs} {old} {mid} {new} input name ending before place (judging.unread fails) =
      stops_unread (work_on_inputs command) input name ending before
      (front_before (stages ++ Read input name ∷ []) command.stages (Require (WithinLimit input)) place) fails
  stops_unwhole {stages} {inputs} {old} {mid} {new} input name ending before place (judging.over_limit is it) =
      subst (λ (e : Ending). Stops (work_on_inputs command) e old new) (sym is)
      (stops_refused (work_on_inputs command) (WithinLimit input) (too_long input)
      (then_read (work_on_inputs command) input name it.bytes before it.has it.asked it.only) place
      (record {
        over = subst (λ (last : List ℕ). limit_of input < length last) (sym (last_input-append inputs it.bytes)) it.is_read;
        is = refl;
      }))

  -- what was read was judged, and gives nothing
  pub stops_judged : {stages : List (Stage (Requirement command.Own))} {inputs : List (List ℕ)} {old new : FilesSeen}
      (requirement : Requirement command.Own) (Refuses : Refusal → Type 0) (ending : Ending)
      → HasPassed (work_on_inputs command) stages inputs old new → IsFrontOf (stages ++ Require requirement ∷ []) command.stages
      → ((refusal : Refusal) → Refuses refusal → RefusesInputs command requirement inputs refusal) → FailsFor Refuses ending
      → Stops (work_on_inputs command) ending old new
  stops_judged {stages} {inputs} {old} {new} requirement Refuses ending before place so (judging.refused refusal is refuses) =
      subst (λ (e : Ending). Stops (work_on_inputs command) e old new) (sym is)
      (stops_refused (work_on_inputs command) requirement refusal before place (so refusal refuses))
  stops_judged {stages} {inputs} {old} {new} requirement Refuses ending before place so (judging.no_memory is) =
      subst (λ (e : Ending). Stops (work_on_inputs command) e old new) (sym is)
      (stops_for_memory (work_on_inputs command) before (front_before stages command.stages (Require requirement) place))
