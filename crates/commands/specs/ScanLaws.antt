-- What holds of a call of `scan`, beside what holds of every call (this project's own).
use Rattle.std.specs.Prelude.{◌≡◌, ℕ, ◌≤◌, ◌↔◌, List, length, All, Some}
use Rattle.pd_base.specs.declared.ids.LineId.{LineId}
use Rattle.pd_base.specs.declared.limits.TheConstants.{MOST_BYTES}
use Rattle.pd_base.specs.declared.test.Test.{Test}
use Rattle.pd_io.specs.Folder.{Folder, bytes_at}
use Rattle.pd_io.specs.Seen.{Outside}
use Rattle.netlist.specs.Circuit.{Circuit}
use Rattle.bench_reader.specs.Circuits.{HasCircuit}
use Rattle.scan_order.specs.ScanFile.{HasChains}
use Rattle.command_line.specs.Modes.{skewed}
use Rattle.command_line.specs.Words.{RunCall, ScanCall}
use Rattle.calls.specs.declared.status.Status.{Status}
use Rattle.calls.specs.Calls.{IsDoneOrNoMemory, NoneFailed}
use Rattle.commands.specs.LaterCalls.{HoldsAs, WasLeftByGen}
use Rattle.commands.specs.Scan.{AreScanned, CanBeLoaded, IsOfLastShift}
use Rattle.commands.specs.declared.inputs.reading.TheConstants.{INPUT_LIMIT}

-- NET has a circuit, SCAN gives chains of it, TESTS spells tests of it, whose pairs some bits load into the chains, and each is within its
-- limit
pub record CanBeScanned (call : ScanCall) (now : Folder) : Type 0 where
  pub circuit : Circuit
  pub chains : List (List LineId)
  pub listed : List Test
  pub are : AreScanned (bytes_at now.held call.net) (bytes_at now.held call.scan) (bytes_at now.held call.tests) circuit chains listed
  pub loadable : All (CanBeLoaded chains) listed
  pub net_within : length (bytes_at now.held call.net) ≤ INPUT_LIMIT
  pub scan_within : length (bytes_at now.held call.scan) ≤ INPUT_LIMIT
  pub tests_within : length (bytes_at now.held call.tests) ≤ MOST_BYTES

-- a call of `scan` finds in NET and SCAN what such a call of `gen` found there, and in TESTS what that call wrote, which was in mode skewed
pub record FindsSkewedTests (run : RunCall) (left : Folder) (call : ScanCall) (now : Folder) : Type 0 where
  pub scan : List ℕ
  pub mode : run.mode ≡ skewed scan
  pub same_net : HoldsAs now call.net left run.net
  pub same_scan : HoldsAs now call.scan left scan
  pub same_tests : HoldsAs now call.tests left run.tests

-- Some bits load the pair of a test into each chain that SCAN gives of the circuit of NET exactly where the last shift of the chains launches
-- it. So a test that is refused for its pair is one that no bits load.
abbrev pub LoadsWhatIsLaunched : Type 0
LoadsWhatIsLaunched = (net scan : List ℕ) (c : Circuit) (chains : List (List LineId)) → HasCircuit net c → HasChains c scan chains
    → (test : Test) → CanBeLoaded chains test ↔ IsOfLastShift c chains test

pub record KeepsScanLaws (call : ScanCall) (status : Status) (old new : Outside) : Type 0 where
  -- the pairs that are refused are those that the last shift does not launch
  pub loadable : LoadsWhatIsLaunched
  -- what can be scanned is, if nothing fails and memory suffices
  pub complete : (now : Folder) → CanBeScanned call now → old.files.folder ≡ Some now → NoneFailed old new → IsDoneOrNoMemory status
  -- so are the tests that gen left in mode skewed, with its NET and its SCAN
  pub behind_gen : (run : RunCall) (left now : Folder) → WasLeftByGen run left → FindsSkewedTests run left call now
      → old.files.folder ≡ Some now → NoneFailed old new → IsDoneOrNoMemory status
