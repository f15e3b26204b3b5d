-- What is passed over files that tell a netlist, tests and a report of it: their reads, and then that the tests can be graded.
use Rattle.std.proofs.Common.{ℕ, ◌≤◌, List, [], ◌∷◌, ◌++◌, length, All, Option, Some, refl}
use Rattle.pd_base.specs.declared.limits.TheConstants.{MOST_BYTES}
use Rattle.pd_base.specs.declared.test.Test.{Test}
use Rattle.pd_io.specs.Folder.{Folder, bytes_at}
use Rattle.netlist.specs.Circuit.{Circuit}
use Rattle.bench_reader.specs.Circuits.{HasCircuit}
use Rattle.runs.specs.declared.run.ListedPath.{ListedPath}
use Rattle.calls.specs.declared.role.Role.TheVariants as role
use Rattle.calls.specs.Passing.{Pass}
use Rattle.calls.specs.Work.{Require, Stage}
use Rattle.commands.specs.Grading.{CanBeGraded, ExpectsValues, ListsPath}
use Rattle.commands.specs.InputRequirements.{ExpectRight, FewGrades, InputCommand, ListsPaths, Requirement, graded_stages, net_stages, tests_and_report_forms, tests_and_report_stages, work_on_inputs}
use Rattle.commands.specs.SpelledRuns.{SpellTestsAndPaths}
use Rattle.commands.specs.declared.inputs.reading.TheConstants.{INPUT_LIMIT}
use Rattle.commands.proofs.GradedStages.{accepts_expected, accepts_grades, accepts_paths, graded_inputs}
use Rattle.commands.proofs.InputStages.{accepts_net}
use Rattle.commands.proofs.ListedStages.{accepts_both}
use Rattle.commands.proofs.StageReads.{accepts_size}

module _ (command : InputCommand) where
  -- the three files are read, and what follows is passed
  module _ (told : Folder) (net_name tests_name report_name : List ℕ) where
    -- what they hold
    abbrev pub net_told : List ℕ
    net_told = bytes_at told.held net_name

    abbrev pub tests_told : List ℕ
    tests_told = bytes_at told.held tests_name

    abbrev pub report_told : List ℕ
    report_told = bytes_at told.held report_name

    pub reads_pass : (later : List (Stage (Requirement command.Own))) (c : Circuit) (all : List (List ℕ)) → HasCircuit net_told c
        → length net_told ≤ INPUT_LIMIT → length tests_told ≤ MOST_BYTES → length report_told ≤ MOST_BYTES
        → Pass (work_on_inputs command) (Some told) later (net_told ∷ tests_told ∷ report_told ∷ []) all
        → Pass (work_on_inputs command) (Some told)
        (net_stages net_name ++ tests_and_report_stages tests_name report_name ++ later) [] all
    reads_pass later c all has net_within tests_within report_within rest = (
      net_told,
      refl,
      (
        accepts_size command role.Net [] net_told net_within,
        (
          accepts_net command net_told [] c has,
          (
            tests_told,
            refl,
            (
              accepts_size command role.Tests (net_told ∷ []) tests_told tests_within,
              (report_told, refl, (accepts_size command role.Report (net_told ∷ tests_told ∷ []) report_told report_within, rest)),
            ),
          ),
        ),
      ),
    )

  -- their tests can be graded, and what follows is passed
  module _ (folder : Option Folder) (net : List ℕ) (c : Circuit) (has : HasCircuit net c) (tests report : List ℕ) (more : List (List ℕ))
      (listed : List Test) (paths : List ListedPath) (spell : SpellTestsAndPaths c tests report listed paths) where
    -- the stages up to the one that there is not too much to grade
    abbrev pub before_grades : List (Stage (Requirement command.Own))
    before_grades = tests_and_report_forms 1 ++ Require ListsPaths ∷ Require ExpectRight ∷ []

    pub pass_before_grades : (later : List (Stage (Requirement command.Own))) (all : List (List ℕ)) → All (ListsPath c) paths
        → All (ExpectsValues c) listed → Pass (work_on_inputs command) folder later (graded_inputs net c has command tests report more) all
        → Pass (work_on_inputs command) folder (before_grades ++ later) (graded_inputs net c has command tests report more) all
    pass_before_grades later all are_paths expect rest =
        let forms = accepts_both command net (tests ∷ report ∷ more) c has 1 tests report refl refl listed paths spell in (
          forms.0,
          (
            forms.1,
            (
              accepts_paths net c has command tests report more paths spell.report_is are_paths,
              (accepts_expected net c has command tests report more listed spell.tests_are expect, rest),
            ),
          ),
        )

    pub pass_graded : (later : List (Stage (Requirement command.Own))) (all : List (List ℕ)) → CanBeGraded c listed paths
        → Pass (work_on_inputs command) folder later (graded_inputs net c has command tests report more) all
        → Pass (work_on_inputs command) folder (graded_stages ++ later) (graded_inputs net c has command tests report more) all
    pass_graded later all graded rest =
        pass_before_grades (Require FewGrades ∷ later) all graded.are_paths graded.expect
        (accepts_grades net c has command tests report more listed paths spell graded.few, rest)
