-- What gen wrote, check accepts, as long as the names hold what they held when gen was done: said of a run, and of the words that ask
-- for it.
use Rattle.std.proofs.Common.{◌≡◌, ◌≤◌, ℕ, List, [], ◌∷◌, Ok, codes, length, map, Some, refl, ap, sym, subst, ◌∙◌, arith, All}
use Rattle.pd_io.specs.Folder.{bytes_at, Folder}
use Rattle.netlist.specs.Lawful.{IsCircuit}
use Rattle.bench_reader.specs.Circuits.{HasCircuit}
use Rattle.bench_reader.proofs.LawfulCircuits.{is_circuit}
use Rattle.delay_annotation.specs.DelayFile.{HasDelays}
use Rattle.pd_base.specs.declared.limits.TheConstants.{MOST_BYTES}
use Rattle.run_files.specs.TestsText.{tests_text}
use Rattle.run_files.specs.ProofsText.{proofs_text}
use Rattle.run_files.specs.ProofsVersions.{version_of}
use Rattle.run_files.specs.ReportText.{report_text}
use Rattle.command_line.specs.Modes.{RunMode, enhanced, broadside, skewed}
use Rattle.command_line.specs.Words.{HasRunNumbers, RunCall, asked_call, check}
use Rattle.calls.specs.Calls.{HasAcceptedInputs}
use Rattle.commands.specs.declared.inputs.reading.TheConstants.{INPUT_LIMIT}
use Rattle.commands.specs.Check.{check_work}
use Rattle.commands.specs.SpelledRuns.{SpellsRun}
use Rattle.commands.specs.Gen.{gen_work}
use Rattle.commands.specs.LaterCalls.{HasNamesApart, HaveKept, HoldsAs, IsLeftBy, WasLeftByGen, run_names, scan_names, scans_in}
use Rattle.commands.specs.LaunchModes.{HasLaunch}
use Rattle.commands.proofs.AskedRuns.{asks_for, AskForRun}
use Rattle.commands.proofs.CheckLaws.{good_run_is_accepted, AreReadable}
use Rattle.commands.proofs.GenLeft.{files_left, LeftFiles}
use Rattle.commands.proofs.GoodTexts.{readable_texts, spelled_run}

module _ (call : RunCall) (numbers : HasRunNumbers call) (left later : Folder) (kept : HaveKept (run_names call) left later)
    (it : LeftFiles call left) where
  -- so under each name stands what gen left there
  net_is : bytes_at later.held call.net ≡ it.net
  net_is = kept 0 [] (omega arith) ∙ it.net_is

  delays_are : bytes_at later.held call.delays ≡ it.delay_file
  delays_are = kept 1 [] (omega arith) ∙ it.delays_is

  tests_are : bytes_at later.held call.tests ≡ tests_text it.circuit it.run.tests
  tests_are = kept 2 [] (omega arith) ∙ it.tests_is

  report_is : bytes_at later.held call.report ≡ report_text it.circuit it.run.paths
  report_is = kept 3 [] (omega arith) ∙ it.report_is

  proofs_are : bytes_at later.held call.proofs ≡ proofs_text (version_of it.circuit it.run.rules it.run.proofs) it.run.proofs
  proofs_are = kept 4 [] (omega arith) ∙ it.proofs_is

  -- the scan file, too, if the mode reads one
  scans_kept : (mode : RunMode)
      → All (λ name. HoldsAs later name left name) (call.net ∷ call.delays ∷ call.tests ∷ call.report ∷ call.proofs ∷ scan_names mode)
      → map (λ name. bytes_at later.held name) (scan_names mode) ≡ map (λ name. bytes_at left.held name) (scan_names mode)
  scans_kept enhanced hold = refl
  scans_kept broadside hold = refl
  scans_kept (skewed scan) hold = ap (λ (bytes : List ℕ). bytes ∷ []) (hold 5 [] (omega arith))

  scans_are : scans_in call later ≡ scans_in call left
  scans_are = scans_kept call.mode kept

  circuit_is : IsCircuit it.circuit
  circuit_is = is_circuit it.net it.circuit it.has

  -- none of the three texts is too long to be read
  are_readable : AreReadable call later
  are_readable =
      let short = readable_texts it.circuit circuit_is call numbers it.delay_file it.delays it.has_delays it.run it.good it.lawful it.short in
      record {
        tests_within = subst (λ (bytes : List ℕ). length bytes ≤ MOST_BYTES) (sym tests_are) short.tests;
        report_within = subst (λ (bytes : List ℕ). length bytes ≤ MOST_BYTES) (sym report_is) short.report;
        proofs_within = subst (λ (bytes : List ℕ). length bytes ≤ MOST_BYTES) (sym proofs_are) short.proofs;
      }

  -- and the three texts spell the run
  spell : SpellsRun it.launch it.circuit (bytes_at later.held call.tests) (bytes_at later.held call.report) (bytes_at later.held call.proofs) it.run
  spell =
      let spells = spelled_run it.circuit circuit_is call numbers it.delay_file it.delays it.has_delays it.run it.good it.lawful it.launch it.of_mode in
      record {
        tests_are = record { lawful = spells.tests_are.lawful; is_text = tests_are };
        report_is = record { lawful = spells.report_is.lawful; is_text = report_is };
        of_mode = it.of_mode;
        proofs_are = record {
          version = spells.proofs_are.version;
          of_rules = spells.proofs_are.of_rules;
          spells = record { lawful = spells.proofs_are.spells.lawful; is_text = proofs_are ∙ spells.proofs_are.spells.is_text };
        };
      }

  accepted : HasAcceptedInputs (check_work call) (Some later)
  accepted =
      good_run_is_accepted call later it.circuit (subst (λ (bytes : List ℕ). HasCircuit bytes it.circuit) (sym net_is) it.has) it.delays
      (subst (λ (bytes : List ℕ). HasDelays it.circuit bytes it.delays) (sym delays_are) it.has_delays) it.launch
      (subst (λ (scans : List (List ℕ)). HasLaunch call.mode it.circuit scans it.launch) (sym scans_are) it.has_launch) it.run spell it.good
      (subst (λ (bytes : List ℕ). length bytes ≤ INPUT_LIMIT) (sym net_is) it.net_within)
      (subst (λ (bytes : List ℕ). length bytes ≤ INPUT_LIMIT) (sym delays_are) it.delays_within)
      (subst (All (λ (scan : List ℕ). length scan ≤ INPUT_LIMIT)) (sym scans_are) it.scans_within) it.short are_readable

-- gen was done, and the names hold what they held then: check accepts its inputs
pub gen_then_check : (call : RunCall) → HasRunNumbers call → HasNamesApart call → (left later : Folder) → IsLeftBy (gen_work call) left
    → HaveKept (run_names call) left later → HasAcceptedInputs (check_work call) (Some later)
gen_then_check call numbers apart left later done kept = accepted call numbers left later kept (files_left call apart left done)

module _ (words : List (List ℕ)) (call : RunCall) (is : asked_call words ≡ Ok (check call)) (run : RunCall) (left later : Folder)
    (was : WasLeftByGen run left) (behind : words ≡ codes "check" ∷ was.words) (kept : HaveKept (run_names run) left later) where
  -- the run that the words ask for
  abbrev asked : (a : AskForRun was.words) × (a.call ≡ run)
  asked = asks_for was.words run was.asked

  -- it is the one that is checked
  same_call : asked.0.call ≡ call
  same_call =
      let both : Ok (check asked.0.call) ≡ Ok (check call) = sym asked.0.by_check ∙ ap asked_call (sym behind) ∙ is in cc

  -- the same words with `gen` in front were done, and the names hold what they held then: check accepts its inputs
  pub accepted_behind_gen : HasAcceptedInputs (check_work call) (Some later)
  accepted_behind_gen =
      subst (λ (r : RunCall). HasAcceptedInputs (check_work r) (Some later)) same_call
      (gen_then_check asked.0.call asked.0.numbers asked.0.names left later
      (subst (λ (r : RunCall). IsLeftBy (gen_work r) left) (sym asked.1) was.left_by)
      (subst (λ (r : RunCall). HaveKept (run_names r) left later) (sym asked.1) kept))
