-- The stages of `gen`, what a run is of and then short texts, up to its products.
use Rattle.std.proofs.Common.{[], ◌∷◌, refl, sym, subst}
use Rattle.std.proofs.lemmas.List.{append-nil}
use Rattle.pd_io.specs.Seen.{FilesSeen}
use Rattle.netlist.specs.Circuit.{Circuit}
use Rattle.netlist.specs.Waves.{Delays}
use Rattle.command_line.specs.Words.{RunCall}
use Rattle.calls.specs.declared.ending.Ending.{Ending}
use Rattle.calls.specs.Work.{Products}
use Rattle.calls.specs.Passing.{HasPassed}
use Rattle.calls.specs.Preparing.{IsPrepared}
use Rattle.calls.specs.Stopping.{Stops}
use Rattle.calls.proofs.Stages.{stops_for_memory}
use Rattle.commands.specs.InputRequirements.{short_stages}
use Rattle.commands.specs.Inside.Judging.{FailsShort, too_long, no_memory}
use Rattle.commands.specs.Inside.RunJudging.{FailsToGiveInputs, GivesInputs}
use Rattle.commands.specs.RunTexts.{front_inputs, run_input_stages}
use Rattle.commands.specs.Gen.{gen_command, gen_stages, gen_work, GivesShort}
use Rattle.commands.specs.Sizes.{HasShortTexts}
use Rattle.commands.specs.declared.launch.Launch.{Launch}
use Rattle.commands.proofs.InputStages as inputs
use Rattle.commands.proofs.RunInputStages.{InputsPassed, inputs_are_passed}
use Rattle.commands.proofs.RunInputStages as run

module _ (call : RunCall) where
  -- an input gives nothing
  pub inputs_fail : (ending : Ending) (old new : FilesSeen) → FailsToGiveInputs call ending old new → Stops (gen_work call) ending old new
  inputs_fail ending old new fails = run.inputs_fail (gen_command call) call (short_stages call.paths) refl ending old new fails

  module _ (c : Circuit) (given : Delays) (launch : Launch) (old new : FilesSeen) (gives : GivesInputs call c given launch old new) where
    it : InputsPassed (gen_command call) call c given launch old new
    it = inputs_are_passed (gen_command call) call c given launch old new gives

    -- the texts are short
    short_passed : HasShortTexts call.paths c → HasPassed (gen_work call) (gen_stages call) (front_inputs it.net it.delays it.scans) old new
    short_passed short =
        inputs.texts_passed (gen_command call) call.paths it.net (it.delays ∷ it.scans) c it.has (run_input_stages call) old new it.passed short

    -- no run is made
    pub texts_fail : (ending : Ending) → FailsShort call.paths c ending → Stops (gen_work call) ending old new
    texts_fail ending (too_long long) =
        inputs.texts_fail (gen_command call) call.paths it.net (it.delays ∷ it.scans) c it.has (run_input_stages call) old new it.passed [] refl
        ending long
    texts_fail ending (no_memory short is) =
        subst (λ (e : Ending). Stops (gen_work call) e old new) (sym is)
        (stops_for_memory (gen_work call) (short_passed short) ([], sym (append-nil (gen_stages call))))

    -- a run was made, of which these are the products
    pub prepared : (products : Products) → GivesShort call c given launch products → IsPrepared (gen_work call) products old new
    prepared products made = record {
      inputs = front_inputs it.net it.delays it.scans;
      passed = short_passed made.short;
      gives = record {
        circuit = c;
        has = it.has;
        delays = given;
        has_delays = it.has_delays;
        launch = launch;
        has_launch = it.has_launch;
        short = made;
      };
    }
