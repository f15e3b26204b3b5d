-- Which inputs `gen` accepts: circuits with their delays, within the limits. And which budget is great enough for it to find out what
-- there is.
use Rattle.std.proofs.Common.{ℕ, ◌-◌, ◌^◌, ◌≤◌, List, [], ◌∷◌, length, Some, refl, sym, subst}
use Rattle.pd_base.specs.declared.fault.Direction.{Direction}
use Rattle.pd_base.specs.declared.rules.Rules.{Rules}
use Rattle.pd_io.specs.Folder.{Folder, bytes_at}
use Rattle.pd_io.specs.Seen.{Outside}
use Rattle.netlist.specs.Circuit.{Circuit}
use Rattle.netlist.specs.Waves.{Delays}
use Rattle.runs.specs.declared.run.ListedPath.{ListedPath}
use Rattle.runs.specs.declared.run.Verdict.{Verdict}
use Rattle.trees.specs.Bounds.{AreSupport, states_of_source}
use Rattle.good_runs.specs.Faults.{IsFault}
use Rattle.good_runs.specs.Truth.{IsTruth}
use Rattle.command_line.specs.Words.{RunCall}
use Rattle.calls.specs.declared.status.Status.{Status}
use Rattle.calls.specs.Calls.{Ends, HasAcceptedInputs}
use Rattle.calls.specs.Work.{Products}
use Rattle.commands.specs.InputRequirements.{short_stages}
use Rattle.commands.specs.ModeRules.{searched_rules}
use Rattle.commands.proofs.InputStages.{texts_pass}
use Rattle.commands.proofs.RunInputStages.{inputs_are_accepted}
use Rattle.commands.proofs.ModeRules.{keeps_mode, searched_are}
use Rattle.calls.proofs.Calls.{completes}
use Rattle.commands.specs.GenLaws.{CanBeGenerated, KeepsGenLaws}
use Rattle.commands.specs.LaterCalls.{scans_in}
use Rattle.commands.specs.RunTexts.{front_inputs}
use Rattle.commands.specs.declared.launch.Launch.{Launch}
use Rattle.commands.specs.Gen.{GivesProductsOf, gen_command, gen_work}

module _ (call : RunCall) (told : Folder) where
  -- the inputs, as they stand in the folder
  abbrev inputs : List (List ℕ)
  inputs = front_inputs (bytes_at told.held call.net) (bytes_at told.held call.delays) (scans_in call told)

  -- inputs of which a run can be generated are accepted
  pub generated_inputs_are_accepted : CanBeGenerated call told → HasAcceptedInputs (gen_work call) (Some told)
  generated_inputs_are_accepted can = record {
    told = tt;
    inputs = inputs;
    passed = inputs_are_accepted (gen_command call) call told (short_stages call.paths) can.circuit inputs can.given can.launch can.net_within can.has
        can.delays_within can.gives can.launched can.scans_within
        (texts_pass (gen_command call) call.paths (bytes_at told.held call.net) (bytes_at told.held call.delays ∷ scans_in call told) can.circuit
        can.has told [] inputs can.short refl);
  }

module _ (call : RunCall) (c : Circuit) (delays : Delays) (launch : Launch) (products : Products)
    (gives : GivesProductsOf call c delays launch products) where
  -- the rules of the search
  abbrev rules : Rules
  rules = searched_rules launch c

  -- where the budget is at least the number of states that they leave a source, to the power of the number of sources in the support of a
  -- fault's path, its own not counted, the fault is not aborted, and its verdict tells what there is
  pub power_decides : (number : ℕ) (listed : ListedPath) (direction : Direction) (verdict : Verdict)
      → IsFault gives.run number listed direction verdict → (sources : List ℕ) → AreSupport c rules listed.path sources
      → states_of_source rules ^ (length sources - 1) ≤ call.budget → IsTruth c rules listed.path direction verdict
  power_decides number listed direction verdict fault sources support enough =
      subst (λ (r : Rules). IsTruth c r listed.path direction verdict) gives.rules
      ((gives.promises number listed direction verdict fault).great_budget sources
      (subst (λ (r : Rules). AreSupport c r listed.path sources) (sym gives.rules) support)
      (subst (λ (r : Rules). states_of_source r ^ (length sources - 1) ≤ call.budget) (sym gives.rules) enough))

-- what holds of a call of gen
pub gen_laws : (call : RunCall) (status : Status) (old new : Outside) → Ends (gen_work call) status old new → KeepsGenLaws call status old new
gen_laws call status old new ends = record {
  complete = λ now can told none.
      completes (gen_work call) status old new ends
      (subst (HasAcceptedInputs (gen_work call)) (sym told) (generated_inputs_are_accepted call now can)) none;
  keeps_mode = λ c delays launch products gives.
      keeps_mode launch c delays call.paths call.budget gives.run (searched_are launch c gives.run.rules gives.rules) gives.good gives.promises;
  great_budget = λ c delays launch products. power_decides call c delays launch products;
}
