-- TESTS and REPORT read, and then judged, behind stages of a command that were passed: what is passed then, and how the call ends there.
use Rattle.std.proofs.Common.{◌≡◌, ℕ, ◌+◌, List, [], ◌∷◌, ◌++◌, sym, subst}
use Rattle.pd_base.specs.declared.test.Test.{Test}
use Rattle.pd_io.specs.Seen.{FilesSeen}
use Rattle.pd_io.specs.Telling.{IsFrontOf}
use Rattle.netlist.specs.Circuit.{Circuit}
use Rattle.bench_reader.specs.Circuits.{HasCircuit}
use Rattle.runs.specs.declared.run.ListedPath.{ListedPath}
use Rattle.calls.specs.declared.role.Role.TheVariants as role
use Rattle.calls.specs.declared.ending.Ending.{Ending}
use Rattle.calls.specs.Work.{Stage, Read, Require}
use Rattle.calls.specs.Passing.{Accepts, HasPassed}
use Rattle.calls.specs.Stopping.{Stops}
use Rattle.calls.proofs.Stages.{then_required}
use Rattle.commands.specs.InputRequirements.{InputCommand, LacksForm, Requirement, WellFormed, WithinLimit, input_at, work_on_inputs}
use Rattle.commands.specs.Inside.TestsAndPaths.{FailsToReadBoth, FailsToSpellBoth, ReadsBoth}
use Rattle.commands.specs.Inside.TestsAndPaths as both
use Rattle.commands.specs.SpelledRuns.{IsMalformedReport, SpellTestsAndPaths, SpellsReport}
use Rattle.commands.specs.SpelledTests.{IsMalformedTests, SpellsTests}
use Rattle.commands.specs.declared.inputs.listed.TestsAndReport.{TestsAndReport}
use Rattle.commands.proofs.InputFaults.{report_formed, tests_formed}
use Rattle.commands.proofs.InputStages.{accepts_form}
use Rattle.commands.proofs.StageReads.{front_before, stops_judged, stops_unwhole, then_whole}

module _ (command : InputCommand) where
  -- the stages behind which TESTS was read, and REPORT then
  abbrev pub with_tests : List (Stage (Requirement command.Own)) → List ℕ → List (Stage (Requirement command.Own))
  with_tests stages tests = (stages ++ Read role.Tests tests ∷ []) ++ Require (WithinLimit role.Tests) ∷ []

  abbrev pub with_both : List (Stage (Requirement command.Own)) → List ℕ → List ℕ → List (Stage (Requirement command.Own))
  with_both stages tests report =
      (with_tests stages tests ++ Read role.Report report ∷ []) ++ Require (WithinLimit role.Report) ∷ []

  module _ {stages : List (Stage (Requirement command.Own))} {inputs : List (List ℕ)} {old mid new : FilesSeen} (tests report : List ℕ)
      (before : HasPassed (work_on_inputs command) stages inputs old mid) where
    -- both were read
    pub both_read : (texts : TestsAndReport) → ReadsBoth tests report texts mid new
        → HasPassed (work_on_inputs command) (with_both stages tests report)
        ((inputs ++ texts.tests.items ∷ []) ++ texts.report.items ∷ []) old new
    both_read texts it =
        then_whole command role.Report report texts.report (then_whole command role.Tests tests texts.tests before it.tests) it.report

    -- one was not
    pub both_unread : (ending : Ending) → IsFrontOf (with_both stages tests report) command.stages
        → FailsToReadBoth tests report ending mid new → Stops (work_on_inputs command) ending old new
    both_unread ending place (both.no_tests fails) =
        stops_unwhole command role.Tests tests ending before
        (front_before (with_tests stages tests) command.stages (Read role.Report report)
        (front_before (with_tests stages tests ++ Read role.Report report ∷ []) command.stages (Require (WithinLimit role.Report)) place)) fails
    both_unread ending place (both.no_report text between read fails) =
        stops_unwhole command role.Report report ending (then_whole command role.Tests tests text before read) place fails

  -- their forms, where TESTS was read behind so many inputs, and REPORT next
  module _ (net : List ℕ) (later : List (List ℕ)) (c : Circuit) (has : HasCircuit net c) (place : ℕ) (tests report : List ℕ)
      (tests_at : input_at (net ∷ later) place ≡ tests) (report_at : input_at (net ∷ later) (place + 1) ≡ report) where
    accepts_tests : (listed : List Test) → SpellsTests c tests listed
        → Accepts (work_on_inputs command) (WellFormed role.Tests place) (net ∷ later)
    accepts_tests listed spells =
        accepts_form command role.Tests place net later
        (tests_formed net c has (input_at (net ∷ later) place) listed (subst (λ (t : List ℕ). SpellsTests c t listed) (sym tests_at) spells))

    accepts_report : (paths : List ListedPath) → SpellsReport c report paths
        → Accepts (work_on_inputs command) (WellFormed role.Report (place + 1)) (net ∷ later)
    accepts_report paths spells =
        accepts_form command role.Report (place + 1) net later
        (report_formed net c has (input_at (net ∷ later) (place + 1)) paths
        (subst (λ (t : List ℕ). SpellsReport c t paths) (sym report_at) spells))

    -- both are accepted
    pub accepts_both : (listed : List Test) (paths : List ListedPath) → SpellTestsAndPaths c tests report listed paths
        → Accepts (work_on_inputs command) (WellFormed role.Tests place) (net ∷ later)
        × Accepts (work_on_inputs command) (WellFormed role.Report (place + 1)) (net ∷ later)
    accepts_both listed paths spell = (accepts_tests listed spell.tests_are, accepts_report paths spell.report_is)

    module _ {stages : List (Stage (Requirement command.Own))} {old new : FilesSeen}
        (before : HasPassed (work_on_inputs command) stages (net ∷ later) old new) where
      tests_passed : (listed : List Test) → SpellsTests c tests listed
          → HasPassed (work_on_inputs command) (stages ++ Require (WellFormed role.Tests place) ∷ []) (net ∷ later) old new
      tests_passed listed spells = then_required (work_on_inputs command) (WellFormed role.Tests place) before (accepts_tests listed spells)

      -- both have their form
      pub both_formed : (listed : List Test) (paths : List ListedPath) → SpellTestsAndPaths c tests report listed paths
          → HasPassed (work_on_inputs command)
          ((stages ++ Require (WellFormed role.Tests place) ∷ []) ++ Require (WellFormed role.Report (place + 1)) ∷ []) (net ∷ later) old new
      both_formed listed paths spell =
          then_required (work_on_inputs command) (WellFormed role.Report (place + 1)) (tests_passed listed spell.tests_are)
          (accepts_report paths spell.report_is)

      -- one has not
      pub both_malformed : (ending : Ending)
          → IsFrontOf ((stages ++ Require (WellFormed role.Tests place) ∷ []) ++ Require (WellFormed role.Report (place + 1)) ∷ [])
          command.stages
          → FailsToSpellBoth command.word c tests report ending → Stops (work_on_inputs command) ending old new
      both_malformed ending front (both.no_form_of_tests fails) =
          stops_judged command (WellFormed role.Tests place) (LacksForm command.word role.Tests (IsMalformedTests c tests)) ending before
          (front_before (stages ++ Require (WellFormed role.Tests place) ∷ []) command.stages (Require (WellFormed role.Report (place + 1)))
          front)
          (λ refusal lacks. record {
            place = lacks.place;
            first = record {
              circuit = c;
              has = has;
              malformed = subst (λ (t : List ℕ). IsMalformedTests c t lacks.place) (sym tests_at) lacks.first;
            };
            is = lacks.is;
          }) fails
      both_malformed ending front (both.no_form_of_report listed spells fails) =
          stops_judged command (WellFormed role.Report (place + 1)) (LacksForm command.word role.Report (IsMalformedReport c report)) ending
          (tests_passed listed spells) front
          (λ refusal lacks. record {
            place = lacks.place;
            first = record {
              circuit = c;
              has = has;
              malformed = subst (λ (t : List ℕ). IsMalformedReport c t lacks.place) (sym report_at) lacks.first;
            };
            is = lacks.is;
          }) fails
