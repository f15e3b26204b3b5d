-- What holds of a call of `gen`, beside what holds of every call (this project's own).
use Rattle.std.specs.Prelude.{◌≡◌, ℕ, ◌-◌, ◌^◌, ◌≤◌, List, All, length, Some}
use Rattle.pd_base.specs.declared.fault.Direction.{Direction}
use Rattle.pd_io.specs.Folder.{Folder, bytes_at}
use Rattle.pd_io.specs.Seen.{Outside}
use Rattle.netlist.specs.Circuit.{Circuit}
use Rattle.netlist.specs.Waves.{Delays}
use Rattle.bench_reader.specs.Circuits.{HasCircuit}
use Rattle.delay_annotation.specs.DelayFile.{HasDelays}
use Rattle.runs.specs.declared.run.ListedPath.{ListedPath}
use Rattle.runs.specs.declared.run.Verdict.{Verdict}
use Rattle.trees.specs.Bounds.{AreSupport, states_of_source}
use Rattle.good_runs.specs.Faults.{IsFault}
use Rattle.good_runs.specs.Truth.{IsTruth}
use Rattle.command_line.specs.Words.{RunCall}
use Rattle.calls.specs.declared.status.Status.{Status}
use Rattle.calls.specs.Calls.{IsDoneOrNoMemory, NoneFailed}
use Rattle.calls.specs.Work.{Products}
use Rattle.commands.specs.Gen.{GivesProductsOf}
use Rattle.commands.specs.ModeRules.{KeepsMode, searched_rules}
use Rattle.commands.specs.LaterCalls.{scans_in}
use Rattle.commands.specs.LaunchModes.{HasLaunch}
use Rattle.commands.specs.Sizes.{HasShortTexts}
use Rattle.commands.specs.declared.launch.Launch.{Launch}
use Rattle.commands.specs.declared.inputs.reading.TheConstants.{INPUT_LIMIT}

-- NET has a circuit, DELAYS gives delays to its pins, for a skewed load SCAN gives its chains, each is within its limit, and the texts of so
-- many paths are short
pub record CanBeGenerated (call : RunCall) (now : Folder) : Type 0 where
  pub circuit : Circuit
  pub has : HasCircuit (bytes_at now.held call.net) circuit
  pub given : Delays
  pub gives : HasDelays circuit (bytes_at now.held call.delays) given
  pub net_within : length (bytes_at now.held call.net) ≤ INPUT_LIMIT
  pub delays_within : length (bytes_at now.held call.delays) ≤ INPUT_LIMIT
  pub launch : Launch
  pub launched : HasLaunch call.mode circuit (scans_in call now) launch
  pub scans_within : All (λ scan. length scan ≤ INPUT_LIMIT) (scans_in call now)
  pub short : HasShortTexts call.paths circuit

-- Where the budget is at least the number of states that the launch leaves a source, two by enhanced scan and else four, to the power of the
-- number of sources in the support of a fault's path, its own not counted, the fault is not aborted, and its verdict is what there is.
abbrev pub DecidesByPower : RunCall → Circuit → Delays → Launch → Products → Type 0
DecidesByPower call c delays launch products =
    let rules = searched_rules launch c in
    (gives : GivesProductsOf call c delays launch products) (number : ℕ) (listed : ListedPath) (direction : Direction) (verdict : Verdict)
    → IsFault gives.run number listed direction verdict → (sources : List ℕ) → AreSupport c rules listed.path sources
    → states_of_source rules ^ (length sources - 1) ≤ call.budget → IsTruth c rules listed.path direction verdict

pub record KeepsGenLaws (call : RunCall) (status : Status) (old new : Outside) : Type 0 where
  -- a run is generated where it can be, if nothing fails and memory suffices
  pub complete : (now : Folder) → CanBeGenerated call now → old.files.folder ≡ Some now → NoneFailed old new → IsDoneOrNoMemory status
  -- the run keeps the mode
  pub keeps_mode : (c : Circuit) (delays : Delays) (launch : Launch) (products : Products)
      (gives : GivesProductsOf call c delays launch products) → KeepsMode launch c gives.run
  -- a great budget decides
  pub great_budget : (c : Circuit) (delays : Delays) (launch : Launch) (products : Products) → DecidesByPower call c delays launch products
