-- Which inputs `check` accepts: three files that spell a good run of a circuit with its delays, within the limits.
use Rattle.std.proofs.Common.{◌≡◌, ℕ, ◌≤◌, List, [], ◌∷◌, ◌++◌, length, Some, refl, sym, subst, ◌∙◌, append_assoc, All}
use Rattle.pd_io.specs.Folder.{Folder, bytes_at}
use Rattle.netlist.specs.Circuit.{Circuit}
use Rattle.netlist.specs.Waves.{Delays}
use Rattle.bench_reader.specs.Circuits.{HasCircuit}
use Rattle.delay_annotation.specs.DelayFile.{HasDelays}
use Rattle.runs.specs.declared.run.Run.{Run}
use Rattle.good_runs.specs.GoodRun.{IsGoodRun}
use Rattle.pd_base.specs.declared.limits.TheConstants.{MOST_BYTES}
use Rattle.command_line.specs.Words.{RunCall}
use Rattle.calls.specs.declared.role.Role.TheVariants as role
use Rattle.calls.specs.Calls.{HasAcceptedInputs}
use Rattle.calls.specs.Passing.{Pass}
use Rattle.calls.specs.Work.{Require, Stage}
use Rattle.commands.specs.declared.inputs.reading.TheConstants.{INPUT_LIMIT}
use Rattle.commands.specs.CheckLaws.{texts_in}
use Rattle.commands.specs.InputRequirements.{Requirement, own, short_stages}
use Rattle.commands.specs.LaterCalls.{scans_in}
use Rattle.commands.specs.LaunchModes.{HasLaunch}
use Rattle.commands.specs.RunTexts.{front_inputs, inputs_of}
use Rattle.commands.specs.Sizes.{HasShortTexts}
use Rattle.commands.proofs.InputStages.{texts_pass}
use Rattle.commands.proofs.RunInputStages.{inputs_are_accepted}
use Rattle.commands.proofs.StageReads.{accepts_size}
use Rattle.commands.specs.Check.{CheckRequirement, GoodRun, check_command, check_work, form_stages}
use Rattle.commands.specs.SpelledRuns.{SpellsRun}
use Rattle.commands.proofs.CheckStages.{accepts_good, accepts_proofs, accepts_report, accepts_tests, accepts_version, behind_short, stages_are}
use Rattle.commands.specs.declared.launch.Launch.{Launch}

module _ (call : RunCall) (told : Folder) where
  -- the bytes under the five names
  abbrev net : List ℕ
  net = bytes_at told.held call.net

  abbrev delays : List ℕ
  delays = bytes_at told.held call.delays

  abbrev tests : List ℕ
  tests = bytes_at told.held call.tests

  abbrev report : List ℕ
  report = bytes_at told.held call.report

  abbrev proofs : List ℕ
  proofs = bytes_at told.held call.proofs

  -- none of the three claim files has more bytes than are read
  pub record AreReadable : Type 0 where
    pub tests_within : length tests ≤ MOST_BYTES
    pub report_within : length report ≤ MOST_BYTES
    pub proofs_within : length proofs ≤ MOST_BYTES

  -- those of SCAN, where it is read
  abbrev scans : List (List ℕ)
  scans = scans_in call told

  module _ (c : Circuit) (has : HasCircuit net c) (given : Delays) (gives : HasDelays c delays given) (launch : Launch)
      (has_launch : HasLaunch call.mode c scans launch) (run : Run) (spells : SpellsRun launch c tests report proofs run)
      (good : IsGoodRun c given call.paths call.budget run) where
    -- what stands behind short texts is passed
    claims_pass : AreReadable
        → Pass (check_work call) (Some told) (behind_short call) (front_inputs net delays scans) (inputs_of (texts_in call told))
    claims_pass readable = (
      tests,
      refl,
      (
        accepts_size (check_command call) role.Tests (front_inputs net delays scans) tests readable.tests_within,
        (
          report,
          refl,
          (
            accepts_size (check_command call) role.Report (front_inputs net delays scans ++ tests ∷ []) report readable.report_within,
            (
              proofs,
              refl,
              (
                accepts_size (check_command call) role.Proofs ((front_inputs net delays scans ++ tests ∷ []) ++ report ∷ []) proofs
                    readable.proofs_within,
                subst
                    (λ (all : List (List ℕ)). Pass (check_work call) (Some told) (form_stages call.mode ++ Require (own GoodRun) ∷ []) all
                    (inputs_of (texts_in call told))) (sym one_by_one) (
                      accepts_tests call (texts_in call told) c has launch has_launch run.tests spells.tests_are,
                      (
                        accepts_report call (texts_in call told) c has launch has_launch run.paths spells.report_is,
                        (
                          accepts_proofs call (texts_in call told) c has launch has_launch spells.proofs_are.version run.proofs spells.proofs_are.spells,
                          (
                            accepts_version call (texts_in call told) c has launch has_launch run.rules spells.of_mode run.proofs spells.proofs_are,
                            (accepts_good call (texts_in call told) c has launch has_launch given gives run spells good, refl),
                          ),
                        ),
                      ),
                    ),
              ),
            ),
          ),
        ),
      ),
    )
      where
        -- the inputs, read one by one
        one_by_one : ((front_inputs net delays scans ++ tests ∷ []) ++ report ∷ []) ++ proofs ∷ [] ≡ inputs_of (texts_in call told)
        one_by_one =
            append_assoc (front_inputs net delays scans ++ tests ∷ []) (report ∷ []) (proofs ∷ [])
            ∙ append_assoc (front_inputs net delays scans) (tests ∷ []) (report ∷ proofs ∷ [])

    -- texts that spell a good run are accepted
    pub good_run_is_accepted : length net ≤ INPUT_LIMIT → length delays ≤ INPUT_LIMIT → All (λ scan. length scan ≤ INPUT_LIMIT) scans
        → HasShortTexts call.paths c → AreReadable → HasAcceptedInputs (check_work call) (Some told)
    good_run_is_accepted within delays_within scans_within short readable = record {
      told = tt;
      inputs = inputs_of (texts_in call told);
      passed = subst (λ (stages : List (Stage (Requirement CheckRequirement))).
          Pass (check_work call) (Some told) stages [] (inputs_of (texts_in call told))) (sym (stages_are call))
          (inputs_are_accepted (check_command call) call told (short_stages call.paths ++ behind_short call) c (inputs_of (texts_in call told)) given
          launch within has delays_within gives has_launch scans_within
          (texts_pass (check_command call) call.paths net (delays ∷ scans) c has told (behind_short call) (inputs_of (texts_in call told)) short
          (claims_pass readable)));
    }
