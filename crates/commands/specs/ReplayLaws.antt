-- What holds of a call of `replay`, beside what holds of every call (this project's own).
use Rattle.std.specs.Prelude.{◌≡◌, ℕ, ◌≤◌, List, [], ◌∷◌, length, Some}
use Rattle.pd_base.specs.declared.test.Test.{Test}
use Rattle.pd_io.specs.Folder.{Folder, bytes_at}
use Rattle.pd_io.specs.Seen.{Outside}
use Rattle.netlist.specs.Circuit.{Circuit}
use Rattle.netlist.specs.Waves.{Delays}
use Rattle.pd_base.specs.declared.limits.TheConstants.{MOST_BYTES}
use Rattle.command_line.specs.Words.{ReplayCall, RunCall}
use Rattle.calls.specs.declared.status.Status.{Status}
use Rattle.calls.specs.Calls.{IsDoneOrNoMemory, NoneFailed}
use Rattle.calls.specs.Laws.{AnswersAt}
use Rattle.commands.specs.InputRequirements.{own}
use Rattle.commands.specs.LaterCalls.{FindsTests, WasLeftByGen}
use Rattle.commands.specs.Replay.{AreReplayed, FewChanges, replay_work}
use Rattle.commands.specs.TestChanges.{HaveFewChanges}
use Rattle.commands.specs.declared.inputs.reading.TheConstants.{INPUT_LIMIT}

-- what replay reads, as it stands in a folder
abbrev pub replay_inputs : ReplayCall → Folder → List (List ℕ)
replay_inputs replay now = bytes_at now.held replay.net ∷ bytes_at now.held replay.delays ∷ bytes_at now.held replay.tests ∷ []

-- NET has a circuit, DELAYS gives delays to its pins, TESTS spells tests of it under whose pairs the lines change few times, and each is
-- within its limit
pub record CanBeReplayed (call : ReplayCall) (now : Folder) : Type 0 where
  pub circuit : Circuit
  pub given : Delays
  pub listed : List Test
  pub are : AreReplayed (bytes_at now.held call.net) (bytes_at now.held call.delays) (bytes_at now.held call.tests) circuit given listed
  pub few : HaveFewChanges circuit given listed
  pub net_within : length (bytes_at now.held call.net) ≤ INPUT_LIMIT
  pub delays_within : length (bytes_at now.held call.delays) ≤ INPUT_LIMIT
  pub tests_within : length (bytes_at now.held call.tests) ≤ MOST_BYTES

pub record KeepsReplayLaws (call : ReplayCall) (status : Status) (old new : Outside) : Type 0 where
  -- what can be replayed is, if nothing fails and memory suffices
  pub complete : (now : Folder) → CanBeReplayed call now → old.files.folder ≡ Some now → NoneFailed old new → IsDoneOrNoMemory status
  -- so are the tests that gen left, with its NET and any DELAYS that is accepted, but where a line changes too often under one of them
  pub behind_gen : (run : RunCall) (left now : Folder) → WasLeftByGen run left → FindsTests run left call now → old.files.folder ≡ Some now
      → NoneFailed old new → AnswersAt (replay_work call) (own FewChanges) (replay_inputs call now) status old.err new.err
