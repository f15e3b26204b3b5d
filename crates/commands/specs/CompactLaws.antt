-- What holds of a call of `compact`, beside what holds of every call (this project's own).
use Rattle.std.specs.Prelude.{◌≡◌, ℕ, ◌≤◌, List, [], ◌∷◌, ◌++◌, length, codes, Ok, Some}
use Rattle.pd_base.specs.declared.limits.TheConstants.{MOST_BYTES}
use Rattle.pd_base.specs.declared.test.Test.{Test}
use Rattle.pd_io.specs.Folder.{Folder, bytes_at}
use Rattle.pd_io.specs.Seen.{Outside}
use Rattle.pd_io.specs.Telling.{Tells}
use Rattle.netlist.specs.Circuit.{Circuit}
use Rattle.runs.specs.declared.run.ListedPath.{ListedPath}
use Rattle.command_line.specs.Words.{CompactCall, RunCall, asked_call, compact}
use Rattle.calls.specs.declared.status.Status.{Status}
use Rattle.calls.specs.declared.status.Status.TheVariants as exit
use Rattle.calls.specs.Calls.{IsDoneOrNoMemory, NoneFailed}
use Rattle.calls.specs.Laws.{AnswersAt}
use Rattle.commands.specs.Compact.{compact_work, kept_line}
use Rattle.commands.specs.Grading.{AreGradable}
use Rattle.commands.specs.InputRequirements.{FewGrades}
use Rattle.commands.specs.LaterCalls.{HoldsAs, IsLeftBy, WasLeftByGen}
use Rattle.commands.specs.declared.inputs.reading.TheConstants.{INPUT_LIMIT}

-- what compact reads, as it stands in a folder
abbrev pub compact_inputs : CompactCall → Folder → List (List ℕ)
compact_inputs call now = bytes_at now.held call.net ∷ bytes_at now.held call.tests ∷ bytes_at now.held call.report ∷ []

-- NET has a circuit, TESTS and REPORT spell tests and listed paths of it that can be graded, and each is within its limit
pub record CanBeCompacted (call : CompactCall) (now : Folder) : Type 0 where
  pub circuit : Circuit
  pub listed : List Test
  pub paths : List ListedPath
  pub are : AreGradable (bytes_at now.held call.net) (bytes_at now.held call.tests) (bytes_at now.held call.report) circuit listed paths
  pub net_within : length (bytes_at now.held call.net) ≤ INPUT_LIMIT
  pub tests_within : length (bytes_at now.held call.tests) ≤ MOST_BYTES
  pub report_within : length (bytes_at now.held call.report) ≤ MOST_BYTES

-- three names hold what such a call of `gen` found in NET, and what it wrote to TESTS and to REPORT
pub record HoldRun (run : RunCall) (left : Folder) (net tests report : List ℕ) (now : Folder) : Type 0 where
  pub net_is : HoldsAs now net left run.net
  pub tests_is : HoldsAs now tests left run.tests
  pub report_is : HoldsAs now report left run.report

-- some words asked compact for this, its work was done, and the files told then that they held this
pub record WasLeftByCompact (call : CompactCall) (left : Folder) : Type 0 where
  pub words : List (List ℕ)
  pub asked : asked_call (codes "compact" ∷ words) ≡ Ok (compact call)
  pub left_by : IsLeftBy (compact_work call) left

-- a later call finds in NET and REPORT what such a call found there, and in TESTS what it wrote to OUT
pub record FindsKept (first : CompactCall) (left : Folder) (call : CompactCall) (now : Folder) : Type 0 where
  pub net_is : HoldsAs now call.net left first.net
  pub tests_is : HoldsAs now call.tests left first.out
  pub report_is : HoldsAs now call.report left first.report

-- all tests were kept: OUT has the text that TESTS had, and the line says so
pub record KeepsAll (call : CompactCall) (now : Folder) (old new : Outside) : Type 0 where
  pub tests : ℕ
  pub out : Tells old.files.folder new.files.folder (λ before after. bytes_at after.held call.out ≡ bytes_at now.held call.tests)
  pub line : Tells old.out.taken new.out.taken (λ before after. after ≡ before ++ kept_line tests tests)

pub record KeepsCompactLaws (call : CompactCall) (status : Status) (old new : Outside) : Type 0 where
  -- what can be compacted is, if nothing fails and memory suffices
  pub complete : (now : Folder) → CanBeCompacted call now → old.files.folder ≡ Some now → NoneFailed old new → IsDoneOrNoMemory status
  -- so are the tests that gen left, but where there is too much to grade
  pub behind_gen : (run : RunCall) (left now : Folder) → WasLeftByGen run left → HoldRun run left call.net call.tests call.report now
      → old.files.folder ≡ Some now → NoneFailed old new
      → AnswersAt (compact_work call) FewGrades (compact_inputs call now) status old.err new.err
  -- and those that compact left, if nothing fails and memory suffices
  pub behind_compact : (first : CompactCall) (left now : Folder) → WasLeftByCompact first left → FindsKept first left call now
      → old.files.folder ≡ Some now → NoneFailed old new → IsDoneOrNoMemory status
  -- of which none is left out
  pub keeps_all : (first : CompactCall) (left now : Folder) → WasLeftByCompact first left → FindsKept first left call now
      → old.files.folder ≡ Some now → status ≡ exit.Done → KeepsAll call now old new
