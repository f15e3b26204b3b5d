-- What commands that grade tests require of TESTS and REPORT together, and how they refuse what they find (this project's own). Each listed
-- path is a path of the netlist, whether or not it is one of the first; each test expects what the observed lines have under its second
-- vector; and there are not too many tests for so many faults, of which each listed path has two.
use Rattle.std.specs.Prelude.{◌≡◌, ℕ, ◌+◌, ◌*◌, ◌<◌, ◌≤◌, List, ◌++◌, All, length, take, slice_get, Some, codes, decimal}
use Rattle.pd_base.specs.declared.test.Test.{Test}
use Rattle.netlist.specs.Circuit.{Circuit}
use Rattle.netlist.specs.Paths.{IsPath}
use Rattle.netlist.specs.Values.{observed_values}
use Rattle.bench_reader.specs.Circuits.{HasCircuit}
use Rattle.runs.specs.declared.run.ListedPath.{ListedPath}
use Rattle.calls.specs.CauseAndText.{refusal_for}
use Rattle.calls.specs.declared.cause.Cause.TheVariants as cause
use Rattle.calls.specs.declared.refusal.Refusal.{Refusal}
use Rattle.commands.specs.SpelledRuns.{SpellTestsAndPaths, SpellsReport}
use Rattle.commands.specs.SpelledTests.{SpellsTests}
use Rattle.commands.specs.declared.inputs.graded.TheConstants.{MOST_GRADES}

-- this is the number, counted from 1, of the first item of which this does not hold
pub record IsFirstWithout {X : Type 0} (Holds : X → Type 0) (items : List X) (number : ℕ) : Type 0 where
  pub place : ℕ
  pub item : X
  pub at : slice_get items place ≡ Some item
  pub lacks : ¬ Holds item
  pub earlier : All Holds (take place items)
  pub counted : number ≡ place + 1

-- the listed path is a path of the circuit
abbrev pub ListsPath : Circuit → ListedPath → Type 0
ListsPath c listed = IsPath c listed.path

-- the test expects what the observed lines have under its second vector
abbrev pub ExpectsValues : Circuit → Test → Type 0
ExpectsValues c test = test.expected ≡ observed_values c test.pair.second

-- how many tests there are, times how many faults
abbrev pub grades : List Test → List ListedPath → ℕ
grades listed paths = length listed * (2 * length paths)

-- the tests can be graded against the faults of the listed paths
pub record CanBeGraded (c : Circuit) (listed : List Test) (paths : List ListedPath) : Type 0 where
  pub are_paths : All (ListsPath c) paths
  pub expect : All (ExpectsValues c) listed
  pub few : grades listed paths ≤ MOST_GRADES

-- NET has this circuit, and TESTS and REPORT spell these tests and listed paths of it, which can be graded
pub record AreGradable (net tests report : List ℕ) (c : Circuit) (listed : List Test) (paths : List ListedPath) : Type 0 where
  pub has : HasCircuit net c
  pub spell : SpellTestsAndPaths c tests report listed paths
  pub graded : CanBeGraded c listed paths

-- an item of this number is refused so, as the command of this word says
abbrev pub wrong_item : List ℕ → List ℕ → ℕ → List ℕ → Refusal
wrong_item command item number reason = refusal_for cause.Claims (command ++ item ++ decimal number ++ reason)

-- the listed path of this number is no path
abbrev pub wrong_path : List ℕ → ℕ → Refusal
wrong_path command number = wrong_item command (codes ": path ") number (codes " WrongPath")

-- the test of this number expects other values
abbrev pub wrong_expected : List ℕ → ℕ → Refusal
wrong_expected command number = wrong_item command (codes ": test ") number (codes " WrongExpected")

-- there is too much to grade
abbrev pub too_many_grades : ℕ → Refusal
too_many_grades count = refusal_for cause.Size (codes "size: grade " ++ decimal count)

-- these listed paths are refused for their first that is no path
pub record HaveWrongPath (command : List ℕ) (c : Circuit) (paths : List ListedPath) (refusal : Refusal) : Type 0 where
  pub number : ℕ
  pub first : IsFirstWithout (ListsPath c) paths number
  pub is : refusal ≡ wrong_path command number

-- these tests are refused for the first that expects other values
pub record HaveWrongExpected (command : List ℕ) (c : Circuit) (listed : List Test) (refusal : Refusal) : Type 0 where
  pub number : ℕ
  pub first : IsFirstWithout (ExpectsValues c) listed number
  pub is : refusal ≡ wrong_expected command number

-- so many tests and faults are refused
pub record AreTooManyGrades (listed : List Test) (paths : List ListedPath) (refusal : Refusal) : Type 0 where
  pub over : MOST_GRADES < grades listed paths
  pub is : refusal ≡ too_many_grades (grades listed paths)

-- NET has a circuit, and REPORT spells listed paths of which one is no path of it
pub record RefusesPaths (command net report : List ℕ) (refusal : Refusal) : Type 0 where
  pub circuit : Circuit
  pub has : HasCircuit net circuit
  pub paths : List ListedPath
  pub spells : SpellsReport circuit report paths
  pub wrong : HaveWrongPath command circuit paths refusal

-- NET has a circuit, and TESTS spells tests of which one expects other values
pub record RefusesExpected (command net tests : List ℕ) (refusal : Refusal) : Type 0 where
  pub circuit : Circuit
  pub has : HasCircuit net circuit
  pub listed : List Test
  pub spells : SpellsTests circuit tests listed
  pub wrong : HaveWrongExpected command circuit listed refusal

-- NET has a circuit, and TESTS and REPORT spell too much to grade
pub record RefusesGrades (net tests report : List ℕ) (refusal : Refusal) : Type 0 where
  pub circuit : Circuit
  pub has : HasCircuit net circuit
  pub listed : List Test
  pub paths : List ListedPath
  pub spell : SpellTestsAndPaths circuit tests report listed paths
  pub too_many : AreTooManyGrades listed paths refusal
