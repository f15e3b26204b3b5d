-- When `check` answers 0 and when 1: over files that tell, of which all that is required before the form of the claim files is accepted, and
-- where nothing fails and memory suffices, 0 exactly where the claim files spell a good run, and else 1.
use Rattle.std.proofs.Common.{◌≡◌, ◌≢◌, ℕ, ◌+◌, List, [], ◌∷◌, ◌++◌, Option, Some, Ok, length, refl, sym, ap, subst, ◌∙◌, arith}
use Rattle.std.proofs.lemmas.List.{length-append, length_push}
use Rattle.std.specs.Prelude.{◌↔◌}
use Rattle.pd_base.specs.Memory.{out_of_memory}
use Rattle.pd_io.specs.Folder.{Folder}
use Rattle.pd_io.specs.Seen.{Outside}
use Rattle.command_line.specs.Modes.{RunMode, enhanced, broadside, skewed}
use Rattle.command_line.specs.Words.{RunCall, asked_call, check}
use Rattle.calls.specs.declared.cause.Cause.TheVariants as cause
use Rattle.calls.specs.declared.refusal.Refusal.{Refusal}
use Rattle.calls.specs.declared.role.Role.TheVariants as role
use Rattle.calls.specs.declared.status.Status.{Status}
use Rattle.calls.specs.declared.status.Status.TheVariants as exit
use Rattle.calls.specs.Lines.{status_for}
use Rattle.calls.specs.Work.{Work, Stage, Read, Require, names_read}
use Rattle.calls.specs.Passing.{Pass}
use Rattle.calls.specs.Calls.{Ends, HasAcceptedInputs, IsDoneOrNoMemory, NoneFailed}
use Rattle.calls.specs.Calls as calls
use Rattle.calls.proofs.Acceptance.{front_passed, passed_alike, passed_on}
use Rattle.calls.proofs.Calls.{completes, is_done}
use Rattle.calls.proofs.LaterStages.{IsRefusedLater, refused_later}
use Rattle.calls.proofs.Refusals.{has_refusal, HasRefusal}
use Rattle.commands.specs.InputRequirements.{Requirement, WellFormed, own, short_stages}
use Rattle.commands.specs.LaterCalls.{scan_names}
use Rattle.commands.specs.RunTexts.{RunTexts, claims_place, inputs_of, launch_stages}
use Rattle.commands.specs.Check.{CheckRequirement, GivesCheck, GoodRun, VersionOfMode, SpellGoodRun, check_stages, check_work, claim_reads, stages_read}
use Rattle.commands.specs.CheckLaws.{KeepsCheckLaws}
use Rattle.commands.proofs.CheckLaws.{good_run_is_accepted}
use Rattle.commands.proofs.GenThenCheck.{accepted_behind_gen}
use Rattle.commands.proofs.CheckStages.{accepts_good, accepts_proofs, accepts_report, accepts_tests, accepts_version, texts_found}
use Rattle.commands.proofs.ModeRules.{keeps_mode}

-- the stages behind the form of the tests
abbrev behind_tests : RunMode → List (Stage (Requirement CheckRequirement))
behind_tests mode =
    Require (WellFormed role.Report (claims_place mode + 1)) ∷ Require (WellFormed role.Proofs (claims_place mode + 2))
    ∷ Require (own VersionOfMode) ∷ Require (own GoodRun) ∷ []

-- stages read as many inputs as they have names
as_many_read : (work : Work) (folder : Option Folder) (stages : List (Stage work.Requirement)) (first all : List (List ℕ))
    → Pass work folder stages first all → length all ≡ length first + length (names_read stages)
as_many_read work folder [] first all pass = omega (arith, ap (λ (inputs : List (List ℕ)). length inputs) pass)
as_many_read work folder (Read role name ∷ stages) first all (text, has, pass) =
    omega (arith, length_push first text, as_many_read work folder stages (first ++ text ∷ []) all pass)
as_many_read work folder (Require requirement ∷ stages) first all (accepts, pass) = as_many_read work folder stages first all pass

-- a mode reads as many as it has names
reads_of_mode : (mode : RunMode) (later : List (Stage (Requirement CheckRequirement)))
    → length (names_read (launch_stages mode ++ later)) ≡ length (scan_names mode) + length (names_read later)
reads_of_mode enhanced later = omega arith
reads_of_mode broadside later = omega arith
reads_of_mode (skewed scan) later = omega arith

-- all that these stages refuse is refused as claims are
later_is_of_claims : (call : RunCall) (requirement : Requirement CheckRequirement) (between rest : List (Stage (Requirement CheckRequirement)))
    (inputs : List (List ℕ)) (refusal : Refusal)
    → Require (WellFormed role.Tests (claims_place call.mode)) ∷ behind_tests call.mode ≡ between ++ Require requirement ∷ rest
    → (check_work call).Refuses requirement inputs refusal → refusal.cause ≡ cause.Claims
later_is_of_claims call requirement [] rest inputs refusal place refuses =
    let here : requirement ≡ WellFormed role.Tests (claims_place call.mode) = (cc) in
    ap (λ (r : Refusal). r.cause)
    (subst (λ (r : Requirement CheckRequirement). (check_work call).Refuses r inputs refusal) here refuses).is
later_is_of_claims call requirement (one ∷ []) rest inputs refusal place refuses =
    let here : requirement ≡ WellFormed role.Report (claims_place call.mode + 1) = (cc) in
    ap (λ (r : Refusal). r.cause)
    (subst (λ (r : Requirement CheckRequirement). (check_work call).Refuses r inputs refusal) here refuses).is
later_is_of_claims call requirement (one ∷ two ∷ []) rest inputs refusal place refuses =
    let here : requirement ≡ WellFormed role.Proofs (claims_place call.mode + 2) = (cc) in
    ap (λ (r : Refusal). r.cause)
    (subst (λ (r : Requirement CheckRequirement). (check_work call).Refuses r inputs refusal) here refuses).is
later_is_of_claims call requirement (one ∷ two ∷ three ∷ []) rest inputs refusal place refuses =
    let here : requirement ≡ own VersionOfMode = (cc) in
    ap (λ (r : Refusal). r.cause)
    (subst (λ (r : Requirement CheckRequirement). (check_work call).Refuses r inputs refusal) here refuses).is
later_is_of_claims call requirement (one ∷ two ∷ three ∷ four ∷ []) rest inputs refusal place refuses =
    let here : requirement ≡ own GoodRun = (cc) in
    ap (λ (r : Refusal). r.cause)
    (subst (λ (r : Requirement CheckRequirement). (check_work call).Refuses r inputs refusal) here refuses).is
later_is_of_claims call requirement (one ∷ two ∷ three ∷ four ∷ five ∷ []) rest inputs refusal place refuses = absurd (cc)
later_is_of_claims call requirement (one ∷ two ∷ three ∷ four ∷ five ∷ six ∷ between) rest inputs refusal place refuses = absurd (cc)

module _ (call : RunCall) (told : Folder) (texts : RunTexts) where
  abbrev work : Work
  work = check_work call

  abbrev inputs : List (List ℕ)
  inputs = inputs_of texts

  -- the stages behind the reads
  abbrev later : List (Stage (Requirement CheckRequirement))
  later = Require (WellFormed role.Tests (claims_place call.mode)) ∷ behind_tests call.mode

  -- the files tell these texts, which are accepted by all that is required before their form
  module _ (read : Pass (check_work call) (Some told) (stages_read call) [] inputs) where
    -- texts that spell a good run are accepted
    accepted : SpellGoodRun call texts → HasAcceptedInputs work (Some told)
    accepted it =
        let c = it.circuit in
        let has = it.spell.has in
        let spells = it.spell.spells in
        let launch = it.launch in
        let launched = it.spell.has_launch in
        record {
          told = tt;
          inputs = inputs;
          passed = passed_on work (Some told) (stages_read call) later [] inputs inputs read (
            accepts_tests call texts c has launch launched it.run.tests spells.tests_are,
            (
              accepts_report call texts c has launch launched it.run.paths spells.report_is,
              (
                accepts_proofs call texts c has launch launched spells.proofs_are.version it.run.proofs spells.proofs_are.spells,
                (
                  accepts_version call texts c has launch launched it.run.rules spells.of_mode it.run.proofs spells.proofs_are,
                  (accepts_good call texts c has launch launched it.delays it.spell.has_delays it.run spells it.good, refl),
                ),
              ),
            ),
          );
        }

    -- as many inputs were read as the mode asks for
    fits : length texts.scans ≡ length (scan_names call.mode)
    fits =
        omega (
          arith,
          as_many_read work (Some told) (stages_read call) [] inputs read,
          length-append texts.scans (texts.tests ∷ texts.report ∷ texts.proofs ∷ []),
          reads_of_mode call.mode (short_stages call.paths ++ claim_reads call),
        )

    -- where all is passed, these are the inputs
    same_inputs : (all : List (List ℕ)) → Pass work (Some told) (check_stages call) [] all → all ≡ inputs
    same_inputs all pass =
        let front = front_passed work (Some told) (stages_read call) later [] all pass in
        front.2.1.1.1.1.1 ∙ passed_alike work (Some told) (stages_read call) [] front.0 inputs tt front.1 read

    -- a call over such files, of which nothing failed and that did not run out of memory
    module _ (status : Status) (old new : Outside) (ends : Ends (check_work call) status old new) (tells : old.files.folder ≡ Some told)
        (none : NoneFailed old new) (enough : status ≢ exit.NoMemory out_of_memory) where
      spell_if_done : status ≡ exit.Done → SpellGoodRun call texts
      spell_if_done done =
          let it = is_done work status old new ends done in
          let pass = subst (λ (f : Option Folder). Pass work f (check_stages call) [] it.inputs) tells it.passed in
          subst (SpellGoodRun call) (texts_found call.mode texts fits)
          (subst (λ (read : List (List ℕ)). GivesCheck call read it.products) (same_inputs it.inputs pass) it.gives).spell

      done_if_spelled : SpellGoodRun call texts → status ≡ exit.Done
      done_if_spelled it = by_answer (completes work status old new ends (subst (HasAcceptedInputs work) (sym tells) (accepted it)) none) where
        by_answer : IsDoneOrNoMemory status → status ≡ exit.Done
        by_answer (calls.done done) = done
        by_answer (calls.no_memory lacks) = absurd (enough lacks)

      -- it is answered by 0 exactly where the claim files spell a good run
      done_exactly : (status ≡ exit.Done) ↔ SpellGoodRun call texts
      done_exactly = (spell_if_done, done_if_spelled)

      refused_unless_spelled : (SpellGoodRun call texts → ⊥) → status ≡ exit.Refused
      refused_unless_spelled unspelled =
          by_refusal (has_refusal work status old new none (λ done. unspelled (spell_if_done done)) enough ends) where
            of_claims : (refusal : Refusal)
                → IsRefusedLater work (Some told) (stages_read call) later refusal
                → refusal.cause ≡ cause.Claims
            of_claims refusal it = later_is_of_claims call it.requirement it.between it.rest it.inputs refusal it.place it.refuses

            by_refusal : HasRefusal work status old new → status ≡ exit.Refused
            by_refusal it =
                it.status_is
                ∙ ap status_for
                (of_claims it.refusal
                (refused_later work (Some told) (stages_read call) inputs tt read (Require (WellFormed role.Tests (claims_place call.mode))) (behind_tests call.mode) refl it.refusal
                old.files new.files tells it.refused))

      -- and by 1 exactly where they spell none: where one of them lacks its form, or their run is not good
      refused_exactly : (status ≡ exit.Refused) ↔ (SpellGoodRun call texts → ⊥)
      refused_exactly = (
        λ refused it. let never : exit.Done ≡ exit.Refused = sym (done_if_spelled it) ∙ refused in (cc),
        refused_unless_spelled,
      )

-- what holds of a call of check
pub check_laws : (words : List (List ℕ)) (call : RunCall) → asked_call words ≡ Ok (check call) → (status : Status) (old new : Outside)
    → Ends (check_work call) status old new → KeepsCheckLaws words call status old new
check_laws words call is status old new ends = record {
  complete = λ now holds told none.
      let it = holds.spell in
      completes (check_work call) status old new ends
      (subst (HasAcceptedInputs (check_work call)) (sym told)
      (good_run_is_accepted call now it.circuit it.spell.has it.delays it.spell.has_delays it.launch it.spell.has_launch it.run it.spell.spells
      it.good holds.net_within holds.delays_within holds.scans_within holds.short
      (record { tests_within = holds.tests_within; report_within = holds.report_within; proofs_within = holds.proofs_within }))) none;
  keeps_mode = λ texts it.
      keeps_mode it.launch it.circuit it.delays call.paths call.budget it.run it.spell.spells.of_mode it.good it.promises;
  done_exactly = λ texts comes.
      done_exactly call comes.folder texts comes.read status old new ends comes.told
      comes.none_failed comes.enough;
  refused_exactly = λ texts comes.
      refused_exactly call comes.folder texts comes.read status old new ends comes.told
      comes.none_failed comes.enough;
  behind_gen = λ run left later was behind kept told none.
      completes (check_work call) status old new ends
      (subst (HasAcceptedInputs (check_work call)) (sym told) (accepted_behind_gen words call is run left later was behind kept)) none;
}
