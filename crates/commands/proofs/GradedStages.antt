-- TESTS and REPORT judged so that their tests can be graded, behind stages of a command that were passed: what is passed then, and how the
-- call ends there.
use Rattle.std.proofs.Common.{◌≡◌, ℕ, ◌<◌, ◌≤◌, List, [], ◌∷◌, ◌++◌, All, refl, sym, subst, ◌∙◌, arith}
use Rattle.pd_base.specs.declared.test.Test.{Test}
use Rattle.pd_io.specs.Seen.{FilesSeen}
use Rattle.pd_io.specs.Telling.{IsFrontOf}
use Rattle.netlist.specs.Circuit.{Circuit}
use Rattle.bench_reader.specs.Circuits.{HasCircuit}
use Rattle.bench_reader.proofs.Answering.{one_circuit}
use Rattle.bench_reader.proofs.LawfulCircuits.{is_circuit}
use Rattle.runs.specs.declared.run.ListedPath.{ListedPath}
use Rattle.run_files.proofs.TestFiles.{tests_once}
use Rattle.run_files.proofs.ReportOnce.{report_once}
use Rattle.calls.specs.declared.role.Role.TheVariants as role
use Rattle.calls.specs.declared.ending.Ending.{Ending}
use Rattle.calls.specs.Work.{Stage, Require}
use Rattle.calls.specs.Passing.{Accepts, HasPassed}
use Rattle.calls.specs.Stopping.{Stops}
use Rattle.calls.proofs.Stages.{then_required}
use Rattle.commands.specs.Grading.{AreTooManyGrades, CanBeGraded, ExpectsValues, HaveWrongExpected, HaveWrongPath, IsFirstWithout, ListsPath, grades}
use Rattle.commands.specs.InputRequirements.{ExpectRight, FewGrades, InputCommand, ListsPaths, Requirement, WellFormed, work_on_inputs}
use Rattle.commands.specs.Inside.Grading.{FailsGrading, FailsToBeGraded}
use Rattle.commands.specs.Inside.Grading as grading
use Rattle.commands.specs.SpelledRuns.{SpellTestsAndPaths, SpellsReport}
use Rattle.commands.specs.SpelledTests.{SpellsTests}
use Rattle.commands.specs.declared.inputs.graded.TheConstants.{MOST_GRADES}
use Rattle.commands.proofs.FirstWithout.{none_without}
use Rattle.commands.proofs.ListedStages.{both_formed, both_malformed}
use Rattle.commands.proofs.StageReads.{front_before, stops_judged}

-- one text spells one list of tests
pub same_tests : (c : Circuit) (text : List ℕ) (listed other : List Test) → SpellsTests c text listed → SpellsTests c text other
    → listed ≡ other
same_tests c text listed other spells also =
    tests_once c listed other spells.lawful also.lawful (sym spells.is_text ∙ also.is_text)

module _ (net : List ℕ) (c : Circuit) (has : HasCircuit net c) where
  -- and one list of listed paths
  pub same_paths : (text : List ℕ) (paths other : List ListedPath) → SpellsReport c text paths → SpellsReport c text other → paths ≡ other
  same_paths text paths other spells also =
      report_once c (is_circuit net c has) paths other spells.lawful also.lawful (sym spells.is_text ∙ also.is_text)

  module _ (command : InputCommand) (tests report : List ℕ) (more : List (List ℕ)) where
    -- the inputs
    abbrev pub graded_inputs : List (List ℕ)
    graded_inputs = net ∷ tests ∷ report ∷ more

    pub accepts_paths : (paths : List ListedPath) → SpellsReport c report paths → All (ListsPath c) paths
        → Accepts (work_on_inputs command) ListsPaths graded_inputs
    accepts_paths paths spells all refusal it =
        let P : Circuit → Type 0 = λ d. SpellsReport d report it.paths × HaveWrongPath command.word d it.paths refusal in
        let here : P c = subst P (one_circuit net it.circuit c it.has has) (it.spells, it.wrong) in
        none_without (ListsPath c) paths here.1.number all
        (subst (λ (p : List ListedPath). IsFirstWithout (ListsPath c) p here.1.number) (same_paths report it.paths paths here.0 spells)
        here.1.first)

    pub accepts_expected : (listed : List Test) → SpellsTests c tests listed → All (ExpectsValues c) listed
        → Accepts (work_on_inputs command) ExpectRight graded_inputs
    accepts_expected listed spells all refusal it =
        let P : Circuit → Type 0 = λ d. SpellsTests d tests it.listed × HaveWrongExpected command.word d it.listed refusal in
        let here : P c = subst P (one_circuit net it.circuit c it.has has) (it.spells, it.wrong) in
        none_without (ExpectsValues c) listed here.1.number all
        (subst (λ (l : List Test). IsFirstWithout (ExpectsValues c) l here.1.number) (same_tests c tests it.listed listed here.0 spells)
        here.1.first)

    pub accepts_grades : (listed : List Test) (paths : List ListedPath) → SpellTestsAndPaths c tests report listed paths
        → grades listed paths ≤ MOST_GRADES → Accepts (work_on_inputs command) FewGrades graded_inputs
    accepts_grades listed paths spell few refusal it =
        let P : Circuit → Type 0 = λ d. SpellTestsAndPaths d tests report it.listed it.paths in
        let here : P c = subst P (one_circuit net it.circuit c it.has has) it.spell in
        let over : MOST_GRADES < grades it.listed it.paths = it.too_many.over in
        let of_tests : MOST_GRADES < grades listed it.paths =
        subst (λ (l : List Test). MOST_GRADES < grades l it.paths) (same_tests c tests it.listed listed here.tests_are spell.tests_are) over in
        let of_both : MOST_GRADES < grades listed paths =
        subst (λ (p : List ListedPath). MOST_GRADES < grades listed p) (same_paths report it.paths paths here.report_is spell.report_is)
        of_tests in
        omega arith

    module _ {stages : List (Stage (Requirement command.Own))} {old new : FilesSeen}
        (before : HasPassed (work_on_inputs command) stages graded_inputs old new) where
      -- the stages up to the forms, and up to each further requirement
      abbrev pub with_forms : List (Stage (Requirement command.Own))
      with_forms = (stages ++ Require (WellFormed role.Tests 1) ∷ []) ++ Require (WellFormed role.Report 2) ∷ []

      abbrev pub with_paths : List (Stage (Requirement command.Own))
      with_paths = with_forms ++ Require ListsPaths ∷ []

      abbrev pub with_expected : List (Stage (Requirement command.Own))
      with_expected = with_paths ++ Require ExpectRight ∷ []

      abbrev pub with_grades : List (Stage (Requirement command.Own))
      with_grades = with_expected ++ Require FewGrades ∷ []

      module _ (listed : List Test) (paths : List ListedPath) (spell : SpellTestsAndPaths c tests report listed paths) where
        formed : HasPassed (work_on_inputs command) with_forms graded_inputs old new
        formed = both_formed command net (tests ∷ report ∷ more) c has 1 tests report refl refl before listed paths spell

        paths_passed : All (ListsPath c) paths → HasPassed (work_on_inputs command) with_paths graded_inputs old new
        paths_passed all = then_required (work_on_inputs command) ListsPaths formed (accepts_paths paths spell.report_is all)

        expected_passed : All (ListsPath c) paths → All (ExpectsValues c) listed
            → HasPassed (work_on_inputs command) with_expected graded_inputs old new
        expected_passed all expect =
            then_required (work_on_inputs command) ExpectRight (paths_passed all) (accepts_expected listed spell.tests_are expect)

        -- the tests can be graded
        pub graded_passed : CanBeGraded c listed paths → HasPassed (work_on_inputs command) with_grades graded_inputs old new
        graded_passed graded =
            then_required (work_on_inputs command) FewGrades (expected_passed graded.are_paths graded.expect)
            (accepts_grades listed paths spell graded.few)

        -- or not
        grading_fails : (ending : Ending) → IsFrontOf with_grades command.stages → FailsGrading command.word c listed paths ending
            → Stops (work_on_inputs command) ending old new
        grading_fails ending place (grading.not_paths fails) =
            stops_judged command ListsPaths (HaveWrongPath command.word c paths) ending formed
            (front_before with_paths command.stages (Require ExpectRight)
            (front_before with_expected command.stages (Require FewGrades) place))
            (λ refusal wrong. record { circuit = c; has = has; paths = paths; spells = spell.report_is; wrong = wrong }) fails
        grading_fails ending place (grading.not_expected all fails) =
            stops_judged command ExpectRight (HaveWrongExpected command.word c listed) ending (paths_passed all)
            (front_before with_expected command.stages (Require FewGrades) place)
            (λ refusal wrong. record { circuit = c; has = has; listed = listed; spells = spell.tests_are; wrong = wrong }) fails
        grading_fails ending place (grading.not_few all expect fails) =
            stops_judged command FewGrades (AreTooManyGrades listed paths) ending (expected_passed all expect) place
            (λ refusal many. record { circuit = c; has = has; listed = listed; paths = paths; spell = spell; too_many = many }) fails

      -- the texts spell no such tests and paths, or ones that can't be graded
      pub not_graded : (ending : Ending) → IsFrontOf with_grades command.stages → FailsToBeGraded command.word c tests report ending
          → Stops (work_on_inputs command) ending old new
      not_graded ending place (grading.unspelled fails) =
          both_malformed command net (tests ∷ report ∷ more) c has 1 tests report refl refl before ending
          (front_before with_forms command.stages (Require ListsPaths)
          (front_before with_paths command.stages (Require ExpectRight)
          (front_before with_expected command.stages (Require FewGrades) place))) fails
      not_graded ending place (grading.ungraded listed paths spell fails) = grading_fails listed paths spell ending place fails
