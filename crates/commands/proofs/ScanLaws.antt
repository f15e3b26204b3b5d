-- Which inputs `scan` accepts: what can be scanned, and the tests that gen left in mode skewed, with the same NET and SCAN.
use Rattle.std.proofs.Common.{◌≡◌, ℕ, ◌≤◌, List, [], ◌∷◌, ◌++◌, All, get_or, length, map, Some, refl, sym, ap, subst, ◌∙◌, arith}
use Rattle.pd_base.specs.declared.limits.TheConstants.{MOST_BYTES}
use Rattle.pd_io.specs.Folder.{Folder, bytes_at}
use Rattle.pd_io.specs.Seen.{Outside}
use Rattle.bench_reader.specs.Circuits.{HasCircuit}
use Rattle.bench_reader.proofs.LawfulCircuits.{is_circuit}
use Rattle.command_line.specs.Modes.{RunMode, skewed}
use Rattle.command_line.specs.Words.{HasRunNumbers, RunCall, ScanCall}
use Rattle.calls.specs.declared.role.Role.TheVariants as role
use Rattle.calls.specs.declared.status.Status.{Status}
use Rattle.calls.specs.Calls.{Ends, HasAcceptedInputs}
use Rattle.calls.specs.Work.{Require, Stage}
use Rattle.calls.proofs.Calls.{completes}
use Rattle.commands.specs.declared.inputs.reading.TheConstants.{INPUT_LIMIT}
use Rattle.commands.specs.declared.launch.Launch.{Launch}
use Rattle.commands.specs.declared.launch.Launch.TheVariants.{Skewed}
use Rattle.commands.specs.InputRequirements.{Requirement, WellFormed, own, read_stages}
use Rattle.commands.specs.LaterCalls.{HasNamesApart, scan_names, scans_in}
use Rattle.commands.specs.LaunchModes.{HasLaunch, IsShiftedBy}
use Rattle.commands.specs.ModeRules.{AreRulesOf}
use Rattle.commands.specs.Scan.{LaunchesPairs, ScanRequirement, scan_command, scan_work}
use Rattle.commands.specs.ScanLaws.{CanBeScanned, FindsSkewedTests, KeepsScanLaws}
use Rattle.commands.proofs.AskedRuns.{asks_for}
use Rattle.commands.proofs.ChainStages.{chains_pass}
use Rattle.commands.proofs.GenLeft.{LeftFiles, files_left}
use Rattle.commands.proofs.GoodTexts.{CanBeRead, readable_texts}
use Rattle.commands.proofs.InputStages.{accepts_net}
use Rattle.commands.proofs.ModeRules.{of_mode}
use Rattle.commands.proofs.ScanAccepting.{accepts_pairs, accepts_tests, accepts_tests_size, scanned_inputs}
use Rattle.commands.proofs.ScanStages.{loadable}
use Rattle.commands.proofs.StageReads.{accepts_size}

module _ (call : ScanCall) (now : Folder) where
  -- what the names hold
  abbrev net : List ℕ
  net = bytes_at now.held call.net

  abbrev scan : List ℕ
  scan = bytes_at now.held call.scan

  abbrev tests : List ℕ
  tests = bytes_at now.held call.tests

  -- the stages behind SCAN
  abbrev behind_scan : List (Stage (Requirement ScanRequirement))
  behind_scan = read_stages role.Tests call.tests ++ Require (WellFormed role.Tests 2) ∷ Require (own LaunchesPairs) ∷ []

  -- what can be scanned is accepted
  pub scan_accepted : CanBeScanned call now → HasAcceptedInputs (scan_work call) (Some now)
  scan_accepted can = record {
    told = tt;
    inputs = scanned_inputs call net scan tests;
    passed = (
      net,
      refl,
      (
        accepts_size (scan_command call) role.Net [] net can.net_within,
        (
          accepts_net (scan_command call) net [] can.circuit can.are.has,
          chains_pass (scan_command call) net [] can.circuit can.are.has call.scan 1 refl now behind_scan (scanned_inputs call net scan tests) can.chains
              can.are.gives can.scan_within (
                tests,
                refl,
                (
                  accepts_tests_size call net scan tests can.tests_within,
                  (
                    accepts_tests call net scan tests can.circuit can.are.has can.listed can.are.spells,
                    (accepts_pairs call net scan tests can.circuit can.chains can.listed can.are can.loadable, refl),
                  ),
                ),
              ),
        ),
      ),
    );
  }

module _ (run : RunCall) (numbers : HasRunNumbers run) (left now : Folder) (it : LeftFiles run left) (call : ScanCall)
    (finds : FindsSkewedTests run left call now) where
  -- what gen read for its mode is what scan finds in SCAN
  scans_are : scans_in run left ≡ bytes_at now.held call.scan ∷ []
  scans_are =
      ap (λ (mode : RunMode). map (λ name. bytes_at left.held name) (scan_names mode)) finds.mode
      ∙ ap (λ (bytes : List ℕ). bytes ∷ []) (sym finds.same_scan)

  -- so gen launched pairs by the last shift of its chains
  shifted_by : IsShiftedBy it.circuit (bytes_at now.held call.scan) it.launch
  shifted_by =
      subst (λ (read : List (List ℕ)). HasLaunch (skewed finds.scan) it.circuit read it.launch) scans_are
      (subst (λ (mode : RunMode). HasLaunch mode it.circuit (scans_in run left) it.launch) finds.mode it.has_launch)

  of_launch : AreRulesOf (Skewed shifted_by.chains) it.circuit it.run.rules
  of_launch = subst (λ (launch : Launch). AreRulesOf launch it.circuit it.run.rules) shifted_by.is it.of_mode

  short : CanBeRead it.circuit it.run
  short =
      readable_texts it.circuit (is_circuit it.net it.circuit it.has) run numbers it.delay_file it.delays it.has_delays it.run it.good it.lawful
      it.short

  pub can_be_scanned : CanBeScanned call now
  can_be_scanned = record {
    circuit = it.circuit;
    chains = shifted_by.chains;
    listed = it.run.tests;
    are = record {
      has = subst (λ (bytes : List ℕ). HasCircuit bytes it.circuit) (sym (finds.same_net ∙ it.net_is)) it.has;
      gives = shifted_by.has;
      spells = record { lawful = it.lawful.tests; is_text = finds.same_tests ∙ it.tests_is };
    };
    loadable = λ place d within.
        (loadable it.circuit (is_circuit it.net it.circuit it.has) shifted_by.chains shifted_by.has.are (get_or it.run.tests place d)).1
        (of_mode it.circuit it.run.rules (Skewed shifted_by.chains) of_launch _ (it.good.of_rules place d within));
    net_within = subst (λ (bytes : List ℕ). length bytes ≤ INPUT_LIMIT) (sym (finds.same_net ∙ it.net_is)) it.net_within;
    scan_within =
        (subst (All (λ (bytes : List ℕ). length bytes ≤ INPUT_LIMIT)) scans_are it.scans_within) 0 [] (omega arith);
    tests_within = subst (λ (bytes : List ℕ). length bytes ≤ MOST_BYTES) (sym (finds.same_tests ∙ it.tests_is)) short.tests;
  }

-- what holds of a call of scan
pub scan_laws : (call : ScanCall) (status : Status) (old new : Outside) → Ends (scan_work call) status old new → KeepsScanLaws call status old new
scan_laws call status old new ends = record {
  loadable = λ net scan c chains has gives test. loadable c (is_circuit net c has) chains gives.are test;
  complete = λ now can told none.
      completes (scan_work call) status old new ends
      (subst (HasAcceptedInputs (scan_work call)) (sym told) (scan_accepted call now can)) none;
  behind_gen = λ run left now was finds told none.
      let asked = asks_for was.words run was.asked in
      let P : RunCall → Type 0 = λ r. HasRunNumbers r in
      let Q : RunCall → Type 0 = λ r. HasNamesApart r in
      completes (scan_work call) status old new ends
      (subst (HasAcceptedInputs (scan_work call)) (sym told)
      (scan_accepted call now
      (can_be_scanned run (subst P asked.1 asked.0.numbers) left now (files_left run (subst Q asked.1 asked.0.names) left was.left_by) call finds)))
      none;
}
