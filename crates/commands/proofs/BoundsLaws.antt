-- Which inputs `bounds` accepts: what can be bounded, and what gen left where there is not too much to grade and LOG is not refused.
use Rattle.std.proofs.Common.{◌≡◌, ⊎_elim, ℕ, ◌<◌, ◌≤◌, List, [], ◌∷◌, ◌++◌, length, Some, refl, sym, subst}
use Rattle.std.proofs.lemmas.Bool.{cases_lt}
use Rattle.pd_io.specs.Folder.{Folder, bytes_at}
use Rattle.pd_io.specs.Seen.{Outside, SinkSeen}
use Rattle.command_line.specs.Words.{BoundsCall}
use Rattle.calls.specs.declared.role.Role.TheVariants as role
use Rattle.calls.specs.declared.status.Status.{Status}
use Rattle.calls.specs.Calls as calls
use Rattle.calls.specs.Calls.{Ends, HasAcceptedInputs, NoneFailed}
use Rattle.calls.specs.Laws.{AnswersAt, AnswersRefusal, LeadsToRefusal}
use Rattle.calls.specs.Laws as laws
use Rattle.calls.specs.Passing.{Pass}
use Rattle.calls.specs.Work.{Read, Require, Stage}
use Rattle.calls.proofs.Calls.{completes}
use Rattle.calls.proofs.LaterStages.{answered_at}
use Rattle.calls.proofs.Refusals.{refusal_answered}
use Rattle.commands.specs.declared.inputs.graded.TheConstants.{MOST_GRADES}
use Rattle.commands.specs.declared.inputs.reading.TheConstants.{INPUT_LIMIT}
use Rattle.commands.specs.Bounds.{BoundsRequirement, SpellsLog, bounds_command, bounds_work}
use Rattle.commands.specs.BoundsLaws.{AnswersForLog, CanBeBounded, KeepsBoundsLaws, bounds_inputs}
use Rattle.commands.specs.BoundsLaws as bounds
use Rattle.commands.specs.Grading.{grades, too_many_grades}
use Rattle.commands.specs.InputRefusals.{too_long}
use Rattle.commands.specs.InputRequirements.{ExpectRight, FewGrades, ListsPaths, Requirement, WithinLimit, graded_stages, net_stages, own, read_stages, tests_and_report_forms, tests_and_report_stages}
use Rattle.commands.proofs.BoundsStages.{accepts_log}
use Rattle.commands.proofs.GradedLeft.{HoldsGradable, holds_gradable}
use Rattle.commands.proofs.GradedPasses.{pass_before_grades, pass_graded, reads_pass}
use Rattle.commands.proofs.StageReads.{accepts_size}

-- a refusal that was reported, or want of memory
answers_at : (call : BoundsCall) (requirement : Requirement BoundsRequirement) (inputs : List (List ℕ)) (status : Status) (old new : SinkSeen)
    → AnswersRefusal (bounds_work call) requirement inputs status old new → AnswersAt (bounds_work call) requirement inputs status old new
answers_at call requirement inputs status old new (laws.refused refusal refuses reported) = laws.refused_last refusal refuses reported
answers_at call requirement inputs status old new (laws.no_memory none) = laws.done (calls.no_memory none)

module _ (call : BoundsCall) (now : Folder) where
  -- what the names hold
  abbrev net : List ℕ
  net = bytes_at now.held call.net

  abbrev tests : List ℕ
  tests = bytes_at now.held call.tests

  abbrev report : List ℕ
  report = bytes_at now.held call.report

  abbrev log : List ℕ
  log = bytes_at now.held call.log

  -- what can be bounded is accepted
  accepted : CanBeBounded call now → HasAcceptedInputs (bounds_work call) (Some now)
  accepted can = record {
    told = tt;
    inputs = bounds_inputs call now;
    passed = reads_pass (bounds_command call) now call.net call.tests call.report
        (read_stages role.Log call.log ++ graded_stages ++ Require (own SpellsLog) ∷ []) can.circuit (bounds_inputs call now) can.are.has
        can.net_within can.tests_within can.report_within (
          log,
          refl,
          (
            accepts_size (bounds_command call) role.Log (net ∷ tests ∷ report ∷ []) log can.log_within,
            pass_graded (bounds_command call) (Some now) net can.circuit can.are.has tests report (log ∷ []) can.listed can.paths
                can.are.spell (Require (own SpellsLog) ∷ []) (bounds_inputs call now) can.are.graded
                (accepts_log call net tests report log can.circuit can.are.has can.listed can.are.spell.tests_are can.rows can.is_log, refl),
          ),
        );
  }

  module _ (it : HoldsGradable call.net call.tests call.report now) where
    -- the stages up to LOG's limit, up to the grades, and up to the log
    abbrev up_to_log : List (Stage (Requirement BoundsRequirement))
    up_to_log = net_stages call.net ++ tests_and_report_stages call.tests call.report ++ Read role.Log call.log ∷ []

    abbrev up_to_grades : List (Stage (Requirement BoundsRequirement))
    up_to_grades =
        net_stages call.net ++ tests_and_report_stages call.tests call.report ++ read_stages role.Log call.log
        ++ tests_and_report_forms 1 ++ Require ListsPaths ∷ Require ExpectRight ∷ []

    abbrev up_to_rows : List (Stage (Requirement BoundsRequirement))
    up_to_rows =
        net_stages call.net ++ tests_and_report_stages call.tests call.report ++ read_stages role.Log call.log ++ graded_stages

    -- LOG was read
    log_read : Pass (bounds_work call) (Some now) up_to_log [] (bounds_inputs call now)
    log_read =
        reads_pass (bounds_command call) now call.net call.tests call.report (Read role.Log call.log ∷ []) it.circuit
        (bounds_inputs call now) it.has it.net_within it.tests_within it.report_within (log, refl, refl)

    -- it is too long
    abbrev too_long_log : INPUT_LIMIT < length log → LeadsToRefusal (bounds_work call) (Some now)
    too_long_log over = record {
      told = tt;
      before = up_to_log;
      requirement = WithinLimit role.Log;
      later = graded_stages ++ Require (own SpellsLog) ∷ [];
      place = refl;
      inputs = bounds_inputs call now;
      passed = log_read;
      refusal = too_long role.Log;
      refuses = record { over = over; is = refl };
    }

    module _ (within : length log ≤ INPUT_LIMIT) where
      -- the tests can be graded but for their number
      before_grades : Pass (bounds_work call) (Some now) up_to_grades [] (bounds_inputs call now)
      before_grades =
          reads_pass (bounds_command call) now call.net call.tests call.report
          (read_stages role.Log call.log ++ tests_and_report_forms 1 ++ Require ListsPaths ∷ Require ExpectRight ∷ []) it.circuit
          (bounds_inputs call now) it.has
          it.net_within it.tests_within it.report_within (
            log,
            refl,
            (
              accepts_size (bounds_command call) role.Log (net ∷ tests ∷ report ∷ []) log within,
              pass_before_grades (bounds_command call) (Some now) net it.circuit it.has tests report (log ∷ []) it.listed it.paths it.spell []
                  (bounds_inputs call now) it.are_paths it.expect refl,
            ),
          )

      -- there is too much to grade
      abbrev too_much : MOST_GRADES < grades it.listed it.paths → LeadsToRefusal (bounds_work call) (Some now)
      too_much over = record {
        told = tt;
        before = up_to_grades;
        requirement = FewGrades;
        later = Require (own SpellsLog) ∷ [];
        place = refl;
        inputs = bounds_inputs call now;
        passed = before_grades;
        refusal = too_many_grades (grades it.listed it.paths);
        refuses = record {
          circuit = it.circuit;
          has = it.has;
          listed = it.listed;
          paths = it.paths;
          spell = it.spell;
          too_many = record { over = over; is = refl };
        };
      }

      -- or not
      all_but_log : grades it.listed it.paths ≤ MOST_GRADES → Pass (bounds_work call) (Some now) up_to_rows [] (bounds_inputs call now)
      all_but_log few =
          reads_pass (bounds_command call) now call.net call.tests call.report (read_stages role.Log call.log ++ graded_stages) it.circuit
          (bounds_inputs call now) it.has
          it.net_within it.tests_within it.report_within (
            log,
            refl,
            (
              accepts_size (bounds_command call) role.Log (net ∷ tests ∷ report ∷ []) log within,
              pass_graded (bounds_command call) (Some now) net it.circuit it.has tests report (log ∷ []) it.listed it.paths it.spell []
                  (bounds_inputs call now) (record { are_paths = it.are_paths; expect = it.expect; few = few }) refl,
            ),
          )

    module _ (status : Status) (old new : Outside) (told : old.files.folder ≡ Some now) (ends : Ends (bounds_work call) status old new)
        (none : NoneFailed old new) where
      answers_refusal : (leads : LeadsToRefusal (bounds_work call) (Some now))
          → AnswersAt (bounds_work call) leads.requirement leads.inputs status old.err new.err
      answers_refusal leads =
          answers_at call leads.requirement leads.inputs status old.err new.err
          (refusal_answered (bounds_work call) (Some now) leads status old new ends told none)

      -- so it is answered
      pub answers_for_log : AnswersForLog call now status old.err new.err
      answers_for_log =
          ⊎_elim (λ over. bounds.for_length (answers_refusal (too_long_log over)))
          (λ within. ⊎_elim (λ over. bounds.for_grades (answers_refusal (too_much within over)))
          (λ few. bounds.for_log
          (answered_at (bounds_work call) (Some now) up_to_rows (bounds_inputs call now) tt (all_but_log within few) (own SpellsLog) refl status
          old new ends told none)) (cases_lt MOST_GRADES (grades it.listed it.paths))) (cases_lt INPUT_LIMIT (length log))

-- what holds of a call of bounds
pub bounds_laws : (call : BoundsCall) (status : Status) (old new : Outside) → Ends (bounds_work call) status old new
    → KeepsBoundsLaws call status old new
bounds_laws call status old new ends = record {
  complete = λ now can told none.
      completes (bounds_work call) status old new ends
      (subst (HasAcceptedInputs (bounds_work call)) (sym told) (accepted call now can)) none;
  behind_gen = λ run left now was hold told none.
      answers_for_log call now (holds_gradable run left now call.net call.tests call.report was hold) status old new told ends none;
}
