-- What holds of a call of `rfreplay`, beside what holds of every call (this project's own). That a line which says `late` is right, is said of
-- what the command gives (RiseFallReplay.antt).
use Rattle.std.specs.Prelude.{◌≡◌, ℕ, ◌≤◌, List, [], ◌∷◌, length, Some}
use Rattle.pd_io.specs.Folder.{Folder, bytes_at}
use Rattle.pd_io.specs.Seen.{Outside}
use Rattle.pd_base.specs.declared.limits.TheConstants.{MOST_BYTES}
use Rattle.command_line.specs.Words.{RiseFallReplayCall, RunCall}
use Rattle.calls.specs.declared.status.Status.{Status}
use Rattle.calls.specs.Calls.{IsDoneOrNoMemory, NoneFailed}
use Rattle.calls.specs.Laws.{AnswersAt}
use Rattle.commands.specs.InputRequirements.{own}
use Rattle.commands.specs.LaterCalls.{FindsTestsAndReport, WasLeftByGen}
use Rattle.commands.specs.Replay.{FewChanges}
use Rattle.commands.specs.RiseFallReplay.{AreReadAs, FourTexts, RiseFallInputs, rise_fall_replay_work, waves_under}
use Rattle.commands.specs.TestChanges.{HaveFewOf}
use Rattle.commands.specs.declared.inputs.reading.TheConstants.{INPUT_LIMIT}

-- the four files as they stand in a folder
abbrev pub texts_at : RiseFallReplayCall → Folder → FourTexts
texts_at call now = record {
  net = bytes_at now.held call.net;
  delays = bytes_at now.held call.delays;
  tests = bytes_at now.held call.tests;
  report = bytes_at now.held call.report;
}

-- what rfreplay reads there
abbrev pub rise_fall_inputs : RiseFallReplayCall → Folder → List (List ℕ)
rise_fall_inputs call now =
    bytes_at now.held call.net ∷ bytes_at now.held call.delays ∷ bytes_at now.held call.tests ∷ bytes_at now.held call.report ∷ []

-- each file is within its limit
pub record AreWithinLimits (texts : FourTexts) : Type 0 where
  pub net : length texts.net ≤ INPUT_LIMIT
  pub delays : length texts.delays ≤ INPUT_LIMIT
  pub tests : length texts.tests ≤ MOST_BYTES
  pub report : length texts.report ≤ MOST_BYTES

-- NET has a circuit, DELAYS gives a rise and a fall delay to its pins, TESTS spells tests of it under whose pairs the lines change few times,
-- REPORT lists paths, and each is within its limit
pub record CanBeRiseFallReplayed (call : RiseFallReplayCall) (now : Folder) : Type 0 where
  pub read : RiseFallInputs
  pub are : AreReadAs (texts_at call now) read
  pub few : HaveFewOf read.circuit (waves_under read) read.tests
  pub within : AreWithinLimits (texts_at call now)

pub record KeepsRiseFallReplayLaws (call : RiseFallReplayCall) (status : Status) (old new : Outside) : Type 0 where
  -- what can be replayed is, if nothing fails and memory suffices
  pub complete : (now : Folder) → CanBeRiseFallReplayed call now → old.files.folder ≡ Some now → NoneFailed old new
      → IsDoneOrNoMemory status
  -- so are the tests that gen left, with its NET, its REPORT and any DELAYS that is accepted, but where a line changes too often under one
  -- of them
  pub behind_gen : (run : RunCall) (left now : Folder) → WasLeftByGen run left → FindsTestsAndReport run left call now
      → old.files.folder ≡ Some now → NoneFailed old new
      → AnswersAt (rise_fall_replay_work call) (own FewChanges) (rise_fall_inputs call now) status old.err new.err
