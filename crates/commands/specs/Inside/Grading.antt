-- Why TESTS and REPORT can't be graded, as the functions say it that judge them (this project's own).
use Rattle.std.specs.Prelude.{ℕ, List, All}
use Rattle.pd_base.specs.declared.test.Test.{Test}
use Rattle.netlist.specs.Circuit.{Circuit}
use Rattle.runs.specs.declared.run.ListedPath.{ListedPath}
use Rattle.calls.specs.declared.ending.Ending.{Ending}
use Rattle.commands.specs.Grading.{AreTooManyGrades, ExpectsValues, HaveWrongExpected, HaveWrongPath, ListsPath}
use Rattle.commands.specs.Inside.InputJudging.{FailsFor}
use Rattle.commands.specs.Inside.TestsAndPaths.{FailsToSpellBoth}
use Rattle.commands.specs.SpelledRuns.{SpellTestsAndPaths}

-- the first reason why tests can't be graded against listed paths
pub data FailsGrading (command : List ℕ) (c : Circuit) (listed : List Test) (paths : List ListedPath) (ending : Ending) : Type 0 where
  not_paths : FailsFor (HaveWrongPath command c paths) ending → FailsGrading command c listed paths ending
  not_expected : All (ListsPath c) paths → FailsFor (HaveWrongExpected command c listed) ending
      → FailsGrading command c listed paths ending
  not_few : All (ListsPath c) paths → All (ExpectsValues c) listed → FailsFor (AreTooManyGrades listed paths) ending
      → FailsGrading command c listed paths ending

-- the texts spell no such tests and paths, or ones that can't be graded
pub data FailsToBeGraded (command : List ℕ) (c : Circuit) (tests report : List ℕ) (ending : Ending) : Type 0 where
  unspelled : FailsToSpellBoth command c tests report ending → FailsToBeGraded command c tests report ending
  ungraded : (listed : List Test) (paths : List ListedPath) → SpellTestsAndPaths c tests report listed paths
      → FailsGrading command c listed paths ending → FailsToBeGraded command c tests report ending
