-- What holds of a call of `bounds`, beside what holds of every call (this project's own).
use Rattle.std.specs.Prelude.{◌≡◌, ℕ, ◌≤◌, List, [], ◌∷◌, length, Some}
use Rattle.pd_base.specs.declared.limits.TheConstants.{MOST_BYTES}
use Rattle.pd_base.specs.declared.test.Test.{Test}
use Rattle.pd_io.specs.Folder.{Folder, bytes_at}
use Rattle.pd_io.specs.Seen.{Outside, SinkSeen}
use Rattle.netlist.specs.Circuit.{Circuit}
use Rattle.runs.specs.declared.run.ListedPath.{ListedPath}
use Rattle.delay_bounds.specs.LogFile.{IsLog}
use Rattle.delay_bounds.specs.declared.log_row.LogRow.{LogRow}
use Rattle.command_line.specs.Words.{BoundsCall, RunCall}
use Rattle.calls.specs.declared.role.Role.TheVariants as role
use Rattle.calls.specs.declared.status.Status.{Status}
use Rattle.calls.specs.Calls.{IsDoneOrNoMemory, NoneFailed}
use Rattle.calls.specs.Laws.{AnswersAt}
use Rattle.commands.specs.Bounds.{SpellsLog, bounds_work}
use Rattle.commands.specs.CompactLaws.{HoldRun}
use Rattle.commands.specs.Grading.{AreGradable}
use Rattle.commands.specs.InputRequirements.{FewGrades, WithinLimit, own}
use Rattle.commands.specs.LaterCalls.{WasLeftByGen}
use Rattle.commands.specs.declared.inputs.reading.TheConstants.{INPUT_LIMIT}

-- what bounds reads, as it stands in a folder
abbrev pub bounds_inputs : BoundsCall → Folder → List (List ℕ)
bounds_inputs call now =
    bytes_at now.held call.net ∷ bytes_at now.held call.tests ∷ bytes_at now.held call.report ∷ bytes_at now.held call.log ∷ []

-- NET has a circuit, TESTS and REPORT spell tests and listed paths of it that can be graded, LOG is a log of these tests, and each is within
-- its limit
pub record CanBeBounded (call : BoundsCall) (now : Folder) : Type 0 where
  pub circuit : Circuit
  pub listed : List Test
  pub paths : List ListedPath
  pub are : AreGradable (bytes_at now.held call.net) (bytes_at now.held call.tests) (bytes_at now.held call.report) circuit listed paths
  pub rows : List LogRow
  pub is_log : IsLog (length listed) (bytes_at now.held call.log) rows
  pub net_within : length (bytes_at now.held call.net) ≤ INPUT_LIMIT
  pub tests_within : length (bytes_at now.held call.tests) ≤ MOST_BYTES
  pub report_within : length (bytes_at now.held call.report) ≤ MOST_BYTES
  pub log_within : length (bytes_at now.held call.log) ≤ INPUT_LIMIT

-- the work was done, or memory ran out; or there was too much to grade, or LOG was refused, which was reported
pub data AnswersForLog (call : BoundsCall) (now : Folder) (status : Status) (old new : SinkSeen) : Type 0 where
  for_grades : AnswersAt (bounds_work call) FewGrades (bounds_inputs call now) status old new → AnswersForLog call now status old new
  for_length : AnswersAt (bounds_work call) (WithinLimit role.Log) (bounds_inputs call now) status old new
      → AnswersForLog call now status old new
  for_log : AnswersAt (bounds_work call) (own SpellsLog) (bounds_inputs call now) status old new → AnswersForLog call now status old new

pub record KeepsBoundsLaws (call : BoundsCall) (status : Status) (old new : Outside) : Type 0 where
  -- what can be bounded is, if nothing fails and memory suffices
  pub complete : (now : Folder) → CanBeBounded call now → old.files.folder ≡ Some now → NoneFailed old new → IsDoneOrNoMemory status
  -- so is what gen left, but where there is too much to grade or LOG is refused
  pub behind_gen : (run : RunCall) (left now : Folder) → WasLeftByGen run left → HoldRun run left call.net call.tests call.report now
      → old.files.folder ≡ Some now → NoneFailed old new → AnswersForLog call now status old.err new.err
