-- The stages of `check`, one after the other, up to the one word: what is passed with each, and how the call ends there.
use Rattle.std.proofs.Common.{◌≡◌, ◌<◌, ◌^◌, ◌+◌, ℕ, List, [], ◌∷◌, ◌++◌, codes, length, Result, Ok, Err, IfErr, OnOk, refl, sym, ap, subst, ◌∙◌, append_assoc, arith}
use Rattle.std.specs.Prelude.{⊤, IfOk, MatchResult, Vec}
use Rattle.std.specs.declared.alloc.Global.{Global}
use Rattle.pd_base.specs.declared.rules.Rules.{Rules}
use Rattle.pd_base.specs.declared.test.Test.{Test}
use Rattle.pd_io.specs.Seen.{FilesSeen}
use Rattle.netlist.specs.Circuit.{Circuit, line_count}
use Rattle.netlist.specs.Waves.{Delays}
use Rattle.bench_reader.specs.Circuits.{HasCircuit}
use Rattle.bench_reader.proofs.Answering.{one_circuit}
use Rattle.bench_reader.proofs.LawfulCircuits.{is_circuit}
use Rattle.delay_annotation.specs.DelayFile.{HasDelays}
use Rattle.delay_annotation.proofs.DelayLaws.{delays_agree}
use Rattle.runs.specs.declared.run.ListedPath.{ListedPath}
use Rattle.runs.specs.declared.run.Proof.{Proof}
use Rattle.runs.specs.declared.run.Run.{Run}
use Rattle.good_runs.specs.GoodRun.{IsGoodRun}
use Rattle.claim_check.specs.Claims.{TellsOfRun}
use Rattle.claim_check.specs.declared.claim.Claim.TheVariants.{Holds, Fails}
use Rattle.claim_check.proofs.Agreeing.{claims_agree}
use Rattle.run_files.specs.ProofsVersions.{at_sources}
use Rattle.run_files.specs.declared.version.ProofsVersion.{ProofsVersion}
use Rattle.run_files.proofs.ProofFiles.{proofs_once}
use Rattle.command_line.specs.Modes.{RunMode, enhanced, broadside, skewed}
use Rattle.command_line.specs.Words.{RunCall}
use Rattle.calls.specs.declared.ending.Ending.{Ending}
use Rattle.calls.specs.declared.refusal.Refusal.{Refusal}
use Rattle.calls.specs.declared.role.Role.TheVariants as role
use Rattle.calls.specs.Passing.{Accepts, HasPassed}
use Rattle.calls.specs.Preparing.{Prepares}
use Rattle.calls.specs.Stopping.{Stops}
use Rattle.calls.specs.Work.{Stage, Require}
use Rattle.commands.specs.Inside.InputJudging.{FailsProofs, FailsReport, FailsTests, FailsWithin, ReadsWithin}
use Rattle.commands.specs.InputRequirements.{HasMalformed, LacksForm, Requirement, WellFormed, own, read_stages, short_stages}
use Rattle.commands.specs.LaterCalls.{scan_names}
use Rattle.commands.specs.LaunchModes.{HasLaunch}
use Rattle.commands.specs.RunTexts.{RunTexts, claims_place, front_inputs, inputs_of, run_input_stages, run_texts_of}
use Rattle.commands.specs.SpelledTests.{IsMalformedTests, SpellsTests}
use Rattle.commands.proofs.InputFaults.{proofs_formed, report_formed, tests_formed}
use Rattle.commands.proofs.InputStages.{accepts_form}
use Rattle.commands.proofs.FrontStages.{judged_behind, more_whole_behind, required_behind, unwhole_behind, whole_behind}
use Rattle.commands.specs.Check.{CheckRequirement, GoodRun, VersionOfMode, SpellFlawedRun, SpellAll, SpellGoodRun, SpellOtherVersion, check_command, check_stages, check_work, claim_reads, form_stages, good_products, stages_read}
use Rattle.commands.specs.Inside.Checking.{FailsRules, FailsRun, FailsToSpell, HasNoRules, HasSpelledRun, IsFlawed, IsGoodAndKeeps, SpellsNumbered, all_inputs, no_tests, no_report, no_proofs, no_rules, stages_formed, stages_short}
use Rattle.commands.specs.ModeRules.{AreRulesOf}
use Rattle.commands.specs.SpelledRuns.{HasOtherVersion, IsMalformedProofs, IsMalformedReport, SpellsProofs, SpellsProofsOf, SpellsReport, SpellsRun}
use Rattle.commands.specs.declared.check.reading.ClaimTexts.{ClaimTexts}
use Rattle.commands.specs.declared.launch.Launch.{Launch}
use Rattle.commands.proofs.AgreeingDelays.{good_agrees}
use Rattle.commands.proofs.OneRun.{run_once}
use Rattle.commands.proofs.RunInputStages.{launch_once}

-- as many inputs are read for a mode as its launch is told by
fits_mode : (mode : RunMode) (c : Circuit) (scans : List (List ℕ)) (launch : Launch) → HasLaunch mode c scans launch
    → length scans ≡ length (scan_names mode)
fits_mode enhanced c [] launch has = refl
fits_mode broadside c [] launch has = refl
fits_mode (skewed name) c (scan ∷ []) launch has = refl
fits_mode enhanced c (scan ∷ more) launch has = absurd has
fits_mode broadside c (scan ∷ more) launch has = absurd has
fits_mode (skewed name) c [] launch has = absurd has
fits_mode (skewed name) c (scan ∷ next ∷ more) launch has = absurd has

-- so the files of a run among its inputs are these
pub texts_found : (mode : RunMode) (texts : RunTexts) → length texts.scans ≡ length (scan_names mode)
    → run_texts_of mode (inputs_of texts) ≡ texts
texts_found mode texts fits = by_scans mode texts.scans texts.net texts.delays texts.tests texts.report texts.proofs fits where
  by_scans : (mode : RunMode) (scans : List (List ℕ)) (net delays tests report proofs : List ℕ) → length scans ≡ length (scan_names mode)
      → run_texts_of mode (front_inputs net delays scans ++ tests ∷ report ∷ proofs ∷ [])
      ≡ (record { net = net; delays = delays; scans = scans; tests = tests; report = report; proofs = proofs })
  by_scans enhanced [] net delays tests report proofs fits = refl
  by_scans broadside [] net delays tests report proofs fits = refl
  by_scans (skewed name) (scan ∷ []) net delays tests report proofs fits = refl
  by_scans enhanced (scan ∷ more) net delays tests report proofs fits = absurd (omega (arith, fits))
  by_scans broadside (scan ∷ more) net delays tests report proofs fits = absurd (omega (arith, fits))
  by_scans (skewed name) [] net delays tests report proofs fits = absurd (omega (arith, fits))
  by_scans (skewed name) (scan ∷ next ∷ more) net delays tests report proofs fits = absurd (omega (arith, fits))

module _ (call : RunCall) where
  -- the stages that tell what a run is of
  abbrev front : List (Stage (Requirement CheckRequirement))
  front = run_input_stages call

  -- those behind them, up to each of the claim files
  abbrev up_to_tests : List (Stage (Requirement CheckRequirement))
  up_to_tests = short_stages call.paths

  abbrev up_to_report : List (Stage (Requirement CheckRequirement))
  up_to_report = up_to_tests ++ read_stages role.Tests call.tests

  abbrev up_to_proofs : List (Stage (Requirement CheckRequirement))
  up_to_proofs = up_to_report ++ read_stages role.Report call.report

  -- up to the forms of the claim files
  abbrev up_to_forms : List (Stage (Requirement CheckRequirement))
  up_to_forms = up_to_proofs ++ read_stages role.Proofs call.proofs

  -- the form of the tests, and then that of the report
  abbrev form_of_tests : Stage (Requirement CheckRequirement)
  form_of_tests = Require (WellFormed role.Tests (claims_place call.mode))

  abbrev form_of_report : Stage (Requirement CheckRequirement)
  form_of_report = Require (WellFormed role.Report (claims_place call.mode + 1))

  abbrev form_of_proofs : Stage (Requirement CheckRequirement)
  form_of_proofs = Require (WellFormed role.Proofs (claims_place call.mode + 2))

  -- the stages behind short texts
  abbrev pub behind_short : List (Stage (Requirement CheckRequirement))
  behind_short = claim_reads call ++ form_stages call.mode ++ Require (own GoodRun) ∷ []

  -- all stages, parted behind the front
  pub stages_are : check_stages call ≡ run_input_stages call ++ (short_stages call.paths ++ behind_short)
  stages_are = append_assoc front up_to_forms (form_stages call.mode ++ Require (own GoodRun) ∷ [])

  -- the reads of the three files, behind short texts
  module _ (inputs : List (List ℕ)) (first : FilesSeen) where
    pub tests_unread : (ending : Ending) (old new : FilesSeen) → HasPassed (check_work call) (stages_short call) inputs first old
        → FailsWithin role.Tests call.tests ending old new → Stops (check_work call) ending first new
    tests_unread ending old new before fails =
        unwhole_behind (check_command call) front up_to_tests _ role.Tests call.tests ending before stages_are fails

    pub tests_read : (tests : Vec ℕ Global) (old new : FilesSeen) → HasPassed (check_work call) (stages_short call) inputs first old
        → ReadsWithin role.Tests call.tests tests old new
        → HasPassed (check_work call) (front ++ up_to_report) (inputs ++ tests.items ∷ []) first new
    tests_read tests old new before read =
        whole_behind (check_command call) front up_to_tests role.Tests call.tests tests before read

    module _ (tests : List ℕ) where
      pub report_unread : (ending : Ending) (old new : FilesSeen)
          → HasPassed (check_work call) (front ++ up_to_report) (inputs ++ tests ∷ []) first old
          → FailsWithin role.Report call.report ending old new → Stops (check_work call) ending first new
      report_unread ending old new before fails =
          unwhole_behind (check_command call) front up_to_report _ role.Report call.report ending before stages_are fails

      pub report_read : (report : Vec ℕ Global) (old new : FilesSeen)
          → HasPassed (check_work call) (front ++ up_to_report) (inputs ++ tests ∷ []) first old
          → ReadsWithin role.Report call.report report old new
          → HasPassed (check_work call) (front ++ up_to_proofs) (inputs ++ tests ∷ report.items ∷ []) first new
      report_read report old new before read =
          more_whole_behind (check_command call) front inputs (tests ∷ []) up_to_report role.Report call.report report before read

      module _ (report : List ℕ) where
        pub proofs_unread : (ending : Ending) (old new : FilesSeen)
            → HasPassed (check_work call) (front ++ up_to_proofs) (inputs ++ tests ∷ report ∷ []) first old
            → FailsWithin role.Proofs call.proofs ending old new → Stops (check_work call) ending first new
        proofs_unread ending old new before fails =
            unwhole_behind (check_command call) front up_to_proofs _ role.Proofs call.proofs ending before stages_are fails

        pub proofs_read : (proofs : Vec ℕ Global) (old new : FilesSeen)
            → HasPassed (check_work call) (front ++ up_to_proofs) (inputs ++ tests ∷ report ∷ []) first old
            → ReadsWithin role.Proofs call.proofs proofs old new
            → HasPassed (check_work call) (stages_read call) (inputs ++ tests ∷ report ∷ proofs.items ∷ []) first new
        proofs_read proofs old new before read =
            more_whole_behind (check_command call) front inputs (tests ∷ report ∷ []) up_to_proofs role.Proofs call.proofs proofs before read

  -- the forms of the three texts
  module _ (texts : RunTexts) (c : Circuit) (has : HasCircuit texts.net c) (launch : Launch) (has_launch : HasLaunch call.mode c texts.scans launch)
    where
      -- the inputs
      abbrev inputs : List (List ℕ)
      inputs = inputs_of texts

      -- each text is found at its place
      found : run_texts_of call.mode inputs ≡ texts
      found = texts_found call.mode texts (fits_mode call.mode c texts.scans launch has_launch)

      -- those behind NET
      abbrev behind_net : List (List ℕ)
      behind_net = texts.delays ∷ texts.scans ++ texts.tests ∷ texts.report ∷ texts.proofs ∷ []

      pub accepts_tests : (listed : List Test) → SpellsTests c texts.tests listed
          → Accepts (check_work call) (WellFormed role.Tests (claims_place call.mode)) inputs
      accepts_tests listed spells =
          accepts_form (check_command call) role.Tests (claims_place call.mode) texts.net behind_net
          (subst (λ (t : RunTexts). (line : ℕ) → ¬ HasMalformed role.Tests texts.net t.tests line) (sym found)
          (tests_formed texts.net c has texts.tests listed spells))

      pub accepts_report : (paths : List ListedPath) → SpellsReport c texts.report paths
          → Accepts (check_work call) (WellFormed role.Report (claims_place call.mode + 1)) inputs
      accepts_report paths spells =
          accepts_form (check_command call) role.Report (claims_place call.mode + 1) texts.net behind_net
          (subst (λ (t : RunTexts). (line : ℕ) → ¬ HasMalformed role.Report texts.net t.report line) (sym found)
          (report_formed texts.net c has texts.report paths spells))

      pub accepts_proofs : (version : ProofsVersion) (listed : List Proof) → SpellsProofs c texts.proofs version listed
          → Accepts (check_work call) (WellFormed role.Proofs (claims_place call.mode + 2)) inputs
      accepts_proofs version listed spells =
          accepts_form (check_command call) role.Proofs (claims_place call.mode + 2) texts.net behind_net
          (subst (λ (t : RunTexts). (line : ℕ) → ¬ HasMalformed role.Proofs texts.net t.proofs line) (sym found)
          (proofs_formed texts.net c has texts.proofs version listed spells))

      -- proofs in the version of rules of the launch are in none that no rules of it have
      has_version : (rules : Rules) → AreRulesOf launch c rules → (listed : List Proof) → SpellsProofsOf c texts.proofs rules listed
          → ¬ HasOtherVersion launch c texts.proofs
      has_version rules of_mode listed spells it =
          let few : line_count c < 2 ^ 64 = omega (arith, (is_circuit texts.net c has).few_lines) in
          let same =
          proofs_once c few it.version spells.version it.proofs listed it.spells.lawful spells.spells.lawful
          (sym it.spells.is_text ∙ spells.spells.is_text) in
          it.none_has rules of_mode (ap at_sources same.0 ∙ spells.of_rules)

      -- nor in one that another launch of the mode would tell
      no_other : (rules : Rules) → AreRulesOf launch c rules → (listed : List Proof) → SpellsProofsOf c texts.proofs rules listed
          → (d : Circuit) (other : Launch) → d ≡ c → HasLaunch call.mode d texts.scans other → ¬ HasOtherVersion other d texts.proofs
      no_other rules of_mode listed spells d other same launched it =
          let launched_here = subst (λ (e : Circuit). HasLaunch call.mode e texts.scans other) same launched in
          let it_here = subst (λ (e : Circuit). HasOtherVersion other e texts.proofs) same it in
          has_version rules of_mode listed spells
          (subst (λ (l : Launch). HasOtherVersion l c texts.proofs)
          (launch_once c (is_circuit texts.net c has) call.mode texts.scans other launch launched_here has_launch) it_here)

      pub accepts_version : (rules : Rules) → AreRulesOf launch c rules → (listed : List Proof)
          → SpellsProofsOf c texts.proofs rules listed → Accepts (check_work call) (own VersionOfMode) inputs
      accepts_version rules of_mode listed spells refusal refuses =
          let it = (subst (λ (t : RunTexts). SpellOtherVersion call.mode t refusal) found refuses).other in
          no_other rules of_mode listed spells it.circuit it.launch (one_circuit texts.net it.circuit c it.has has) it.has_launch it.other

      module _ (first new : FilesSeen) (before : HasPassed (check_work call) (stages_read call) inputs first new) where
        -- up to the form of the tests, and up to that of the report
        tests_passed : (listed : List Test) → SpellsTests c texts.tests listed
            → HasPassed (check_work call) (front ++ (up_to_forms ++ form_of_tests ∷ [])) inputs first new
        tests_passed listed spells =
            required_behind (check_command call) front up_to_forms (WellFormed role.Tests (claims_place call.mode)) before
            (accepts_tests listed spells)

        report_passed : (listed : List Test) (paths : List ListedPath) → SpellsTests c texts.tests listed → SpellsReport c texts.report paths
            → HasPassed (check_work call) (front ++ (up_to_forms ++ form_of_tests ∷ form_of_report ∷ [])) inputs first new
        report_passed listed paths spells its =
            required_behind (check_command call) front (up_to_forms ++ form_of_tests ∷ [])
            (WellFormed role.Report (claims_place call.mode + 1)) (tests_passed listed spells) (accepts_report paths its)

        -- all have their form
        proofs_passed : (listed : List Test) (paths : List ListedPath) (version : ProofsVersion) (of_them : List Proof)
            → SpellsTests c texts.tests listed → SpellsReport c texts.report paths → SpellsProofs c texts.proofs version of_them
            → HasPassed (check_work call) (front ++ (up_to_forms ++ form_of_tests ∷ form_of_report ∷ form_of_proofs ∷ [])) inputs first new
        proofs_passed listed paths version of_them spells its theirs =
            required_behind (check_command call) front (up_to_forms ++ form_of_tests ∷ form_of_report ∷ [])
            (WellFormed role.Proofs (claims_place call.mode + 2)) (report_passed listed paths spells its)
            (accepts_proofs version of_them theirs)

        -- and the proofs a version of the mode
        pub all_formed : (run : Run) → SpellsRun launch c texts.tests texts.report texts.proofs run
            → HasPassed (check_work call) (stages_formed call) inputs first new
        all_formed run spells =
            required_behind (check_command call) front (up_to_forms ++ form_of_tests ∷ form_of_report ∷ form_of_proofs ∷ [])
            (own VersionOfMode)
            (proofs_passed run.tests run.paths spells.proofs_are.version run.proofs spells.tests_are spells.report_is spells.proofs_are.spells)
            (accepts_version run.rules spells.of_mode run.proofs spells.proofs_are)

        -- one has not
        pub tests_malformed : (ending : Ending) → FailsTests (codes "check") c texts.tests ending → Stops (check_work call) ending first new
        tests_malformed ending fails =
            judged_behind (check_command call) front up_to_forms _ (WellFormed role.Tests (claims_place call.mode))
            (LacksForm (codes "check") role.Tests (IsMalformedTests c texts.tests)) ending before stages_are
            (λ refusal lacks.
            subst (λ (t : RunTexts). LacksForm (codes "check") role.Tests (HasMalformed role.Tests texts.net t.tests) refusal) (sym found)
            (record {
              place = lacks.place;
              first = record { circuit = c; has = has; malformed = lacks.first };
              is = lacks.is;
            })) fails

        pub report_malformed : (listed : List Test) (ending : Ending) → SpellsTests c texts.tests listed
            → FailsReport (codes "check") c texts.report ending → Stops (check_work call) ending first new
        report_malformed listed ending spells fails =
            judged_behind (check_command call) front (up_to_forms ++ form_of_tests ∷ []) _
            (WellFormed role.Report (claims_place call.mode + 1))
            (LacksForm (codes "check") role.Report (IsMalformedReport c texts.report)) ending (tests_passed listed spells) stages_are
            (λ refusal lacks.
            subst (λ (t : RunTexts). LacksForm (codes "check") role.Report (HasMalformed role.Report texts.net t.report) refusal) (sym found)
            (record {
              place = lacks.place;
              first = record { circuit = c; has = has; malformed = lacks.first };
              is = lacks.is;
            })) fails

        pub proofs_malformed : (listed : List Test) (paths : List ListedPath) (ending : Ending) → SpellsTests c texts.tests listed
            → SpellsReport c texts.report paths → FailsProofs (codes "check") c texts.proofs ending → Stops (check_work call) ending first new
        proofs_malformed listed paths ending spells its fails =
            judged_behind (check_command call) front (up_to_forms ++ form_of_tests ∷ form_of_report ∷ []) _
            (WellFormed role.Proofs (claims_place call.mode + 2))
            (LacksForm (codes "check") role.Proofs (IsMalformedProofs c texts.proofs)) ending (report_passed listed paths spells its) stages_are
            (λ refusal lacks.
            subst (λ (t : RunTexts). LacksForm (codes "check") role.Proofs (HasMalformed role.Proofs texts.net t.proofs) refusal) (sym found)
            (record {
              place = lacks.place;
              first = record { circuit = c; has = has; malformed = lacks.first };
              is = lacks.is;
            })) fails

        -- they have another version
        pub version_refused : (listed : List Test) (paths : List ListedPath) (number : ℕ) (of_them : List Proof) (ending : Ending)
            → SpellsTests c texts.tests listed → SpellsReport c texts.report paths → SpellsNumbered c texts.proofs number of_them
            → FailsRules launch c number ending → Stops (check_work call) ending first new
        version_refused listed paths number of_them ending spells its theirs fails =
            judged_behind (check_command call) front (up_to_forms ++ form_of_tests ∷ form_of_report ∷ form_of_proofs ∷ []) _
            (own VersionOfMode) (HasNoRules launch c number) ending
            (proofs_passed listed paths theirs.version of_them spells its theirs.spells) stages_are
            (λ refusal why.
            subst (λ (t : RunTexts). SpellOtherVersion call.mode t refusal) (sym found)
            (record {
              other = record {
                circuit = c;
                has = has;
                launch = launch;
                has_launch = has_launch;
                other = record {
                  version = theirs.version;
                  proofs = of_them;
                  spells = theirs.spells;
                  none_has = λ rules of_mode. why.none_has rules of_mode theirs.version (sym theirs.is_number);
                };
              };
              is = why.is;
            })) fails

      -- the run that they spell
      module _ (given : Delays) (gives : HasDelays c texts.delays given) (run : Run)
          (spells : SpellsRun launch c texts.tests texts.report texts.proofs run) where
        -- a good run has no flaw
        none_flawed : IsGoodRun c given call.paths call.budget run → (refusal : Refusal) → ¬ SpellFlawedRun call texts refusal
        none_flawed good refusal it =
            never it.circuit it.delays it.launch it.run (one_circuit texts.net it.circuit c it.spell.has has) it.spell it.is_first where
              here : (others : Delays) → HasDelays c texts.delays others → TellsOfRun c others call.paths call.budget run (Fails it.item it.flaw)
                  → ⊥
              here others give tells =
                  let also =
                  good_agrees c given others (delays_agree c (is_circuit texts.net c has) texts.delays given others gives give) call.paths
                  call.budget run good in
                  let never_same : Holds ≡ Fails it.item it.flaw =
                  claims_agree c others call.paths call.budget run Holds (Fails it.item it.flaw) also tells in
                  absurd cc

              never : (d : Circuit) (others : Delays) (launched : Launch) (other : Run) → d ≡ c → SpellAll call.mode texts d others launched other
                  → TellsOfRun d others call.paths call.budget other (Fails it.item it.flaw) → ⊥
              never d others launched other same spell tells =
                  let spell_here = subst (λ (e : Circuit). SpellAll call.mode texts e others launched other) same spell in
                  let tells_here = subst (λ (e : Circuit). TellsOfRun e others call.paths call.budget other (Fails it.item it.flaw)) same tells in
                  let so =
                  launch_once c (is_circuit texts.net c has) call.mode texts.scans launched launch spell_here.has_launch has_launch in
                  let spells_here =
                  subst (λ (l : Launch). SpellsRun l c texts.tests texts.report texts.proofs other) so spell_here.spells in
                  here others spell_here.has_delays
                  (subst (λ (r : Run). TellsOfRun c others call.paths call.budget r (Fails it.item it.flaw))
                  (run_once launch c (is_circuit texts.net c has) texts.tests texts.report texts.proofs other run spells_here spells) tells_here)

        pub accepts_good : IsGoodRun c given call.paths call.budget run → Accepts (check_work call) (own GoodRun) inputs
        accepts_good good refusal refuses =
            none_flawed good refusal (subst (λ (t : RunTexts). SpellFlawedRun call t refusal) found refuses)

        -- all that the texts spell
        abbrev spell_all : SpellAll call.mode texts c given launch run
        spell_all = record { has = has; has_delays = gives; has_launch = has_launch; spells = spells }

        -- it was judged
        module _ (first new : FilesSeen) (before : HasPassed (check_work call) (stages_formed call) inputs first new) where
          run_fails : (ending : Ending) → FailsRun c given call.paths call.budget run ending → Stops (check_work call) ending first new
          run_fails ending fails =
              judged_behind (check_command call) front (up_to_forms ++ form_stages call.mode) [] (own GoodRun)
              (IsFlawed c given call.paths call.budget run) ending before stages_are
              (λ refusal why.
              subst (λ (t : RunTexts). SpellFlawedRun call t refusal) (sym found)
              (record {
                circuit = c;
                delays = given;
                launch = launch;
                run = run;
                spell = spell_all;
                item = why.item;
                flaw = why.flaw;
                is_first = why.is_first;
                is = why.is;
              })) fails

          pub run_judged : (result : Result ⊤ Ending) → OnOk result (IsGoodAndKeeps c given call.paths call.budget run)
              → IfErr result (FailsRun c given call.paths call.budget run)
              → Prepares (λ (done : ⊤). good_products) (check_work call) result first new
          run_judged (Ok done) good fails = record {
            inputs = inputs;
            passed = subst (λ (stages : List (Stage (Requirement CheckRequirement))). HasPassed (check_work call) stages inputs first new)
                (sym stages_are)
                (required_behind (check_command call) front (up_to_forms ++ form_stages call.mode) (own GoodRun) before (accepts_good good.good));
            gives = record {
              spell = subst (SpellGoodRun call) (sym found) (record {
                circuit = c;
                delays = given;
                launch = launch;
                run = run;
                spell = spell_all;
                good = good.good;
                promises = good.promises;
              });
              says = refl;
            };
          }
          run_judged (Err ending) good fails = run_fails ending fails

  -- the texts of a run whose claim files have these
  abbrev pub with_claims : List ℕ → List ℕ → List (List ℕ) → ClaimTexts → RunTexts
  with_claims net delays scans texts = record {
    net = net;
    delays = delays;
    scans = scans;
    tests = texts.tests.items;
    report = texts.report.items;
    proofs = texts.proofs.items;
  }

  module _ (net delays : List ℕ) (scans : List (List ℕ)) (texts : ClaimTexts) (c : Circuit) (has : HasCircuit net c) (launch : Launch)
      (has_launch : HasLaunch call.mode c scans launch) (first new : FilesSeen)
      (before : HasPassed (check_work call) (stages_read call) (all_inputs net delays scans texts) first new) where
    abbrev all : RunTexts
    all = with_claims net delays scans texts

    -- the three texts spell no run
    spelling_fails : (ending : Ending) → FailsToSpell launch c texts ending → Stops (check_work call) ending first new
    spelling_fails ending (no_tests fails) = tests_malformed all c has launch has_launch first new before ending fails
    spelling_fails ending (no_report listed spells fails) = report_malformed all c has launch has_launch first new before listed ending spells fails
    spelling_fails ending (no_proofs listed paths spells its fails) =
        proofs_malformed all c has launch has_launch first new before listed paths ending spells its fails
    spelling_fails ending (no_rules listed paths number of_them spells its theirs fails) =
        version_refused all c has launch has_launch first new before listed paths number of_them ending spells its theirs fails

    -- they spell a run, or the call ended
    pub run_read : (result : Result Run Ending) → IfOk result (SpellsRun launch c texts.tests.items texts.report.items texts.proofs.items)
        → IfErr result (FailsToSpell launch c texts)
        → MatchResult result (λ run. HasSpelledRun call net delays scans c launch run first new)
        (λ ending. Stops (check_work call) ending first new)
    run_read (Ok run) spells fails = record {
      texts = texts;
      passed = all_formed all c has launch has_launch first new before run spells;
      spells = spells;
    }
    run_read (Err ending) spells fails = spelling_fails ending fails
