-- What a call of gen left that was done: under its names, and in the run of its three texts.
use Rattle.std.proofs.Common.{◌≡◌, ⊎_elim, ℕ, ◌<◌, ◌≤◌, List, [], ◌∷◌, ◌++◌, Option, None, Some, length, map, refl, sym, ap, subst, ◌∙◌, arith, All}
use Rattle.std.proofs.lemmas.Bool.{cases_lt}
use Rattle.std.proofs.lemmas.List.Elements.{All-from_recursion}
use Rattle.pd_io.specs.Folder.{bytes_at, Contents, Folder}
use Rattle.pd_io.specs.Telling.{Tells}
use Rattle.netlist.specs.Circuit.{Circuit}
use Rattle.netlist.specs.Waves.{Delays}
use Rattle.runs.specs.declared.run.Run.{Run}
use Rattle.runs.specs.Lawful.{IsLawfulRun}
use Rattle.good_runs.specs.GoodRun.{IsGoodRun}
use Rattle.bench_reader.specs.Circuits.{HasCircuit}
use Rattle.delay_annotation.specs.DelayFile.{HasDelays}
use Rattle.run_files.specs.TestsText.{tests_text}
use Rattle.run_files.specs.ProofsText.{proofs_text}
use Rattle.run_files.specs.ProofsVersions.{version_of}
use Rattle.run_files.specs.ReportText.{report_text}
use Rattle.command_line.specs.Modes.{RunMode, enhanced, broadside, skewed}
use Rattle.command_line.specs.Words.{RunCall}
use Rattle.calls.specs.declared.role.Role.{Role}
use Rattle.calls.specs.declared.role.Role.TheVariants as role
use Rattle.calls.specs.declared.refusal.Refusal.{Refusal}
use Rattle.calls.specs.Passing.{Pass}
use Rattle.calls.specs.Work.{names_read, Products}
use Rattle.calls.specs.Writing.{put_all}
use Rattle.commands.specs.declared.inputs.reading.TheConstants.{INPUT_LIMIT}
use Rattle.commands.specs.InputRefusals.{too_long}
use Rattle.commands.specs.InputRequirements.{IsOverLimit, limit_of, short_stages}
use Rattle.commands.specs.Sizes.{HasShortTexts}
use Rattle.commands.specs.Gen.{gen_stages, gen_work, GivesGen, GivesRun, run_files}
use Rattle.commands.specs.LaterCalls.{HasNamesApart, IsLeftBy, scan_names, scans_in}
use Rattle.commands.specs.LaunchModes.{HasLaunch}
use Rattle.commands.specs.RunTexts.{front_inputs, launch_stages}
use Rattle.commands.specs.declared.launch.Launch.{Launch}
use Rattle.commands.specs.ModeRules.{AreRulesOf}
use Rattle.commands.proofs.FilesLeft.{delays_left, net_left, proofs_left, report_left, scans_left, tests_left}
use Rattle.commands.proofs.ModeRules.{searched_are}

-- an input that is not over its limit is within it
pub not_over : (input : Role) (text : List ℕ) → ((refusal : Refusal) → ¬ IsOverLimit input text refusal) → length text ≤ limit_of input
not_over input text none =
    ⊎_elim (λ (over : limit_of input < length text). absurd (none (too_long input) (record { over = over; is = refl }))) (λ within. within)
    (cases_lt (limit_of input) (length text))

-- what was read stands there still, and the texts of a good run for it
pub record LeftFiles (call : RunCall) (left : Folder) : Type 0 where
  pub net : List ℕ
  pub delay_file : List ℕ
  pub net_within : length net ≤ INPUT_LIMIT
  pub delays_within : length delay_file ≤ INPUT_LIMIT
  pub circuit : Circuit
  pub has : HasCircuit net circuit
  pub delays : Delays
  pub has_delays : HasDelays circuit delay_file delays
  pub launch : Launch
  pub has_launch : HasLaunch call.mode circuit (scans_in call left) launch
  pub scans_within : All (λ scan. length scan ≤ INPUT_LIMIT) (scans_in call left)
  pub short : HasShortTexts call.paths circuit
  pub run : Run
  pub good : IsGoodRun circuit delays call.paths call.budget run
  pub lawful : IsLawfulRun circuit run
  pub of_mode : AreRulesOf launch circuit run.rules
  pub net_is : bytes_at left.held call.net ≡ net
  pub delays_is : bytes_at left.held call.delays ≡ delay_file
  pub tests_is : bytes_at left.held call.tests ≡ tests_text circuit run.tests
  pub report_is : bytes_at left.held call.report ≡ report_text circuit run.paths
  pub proofs_is : bytes_at left.held call.proofs ≡ proofs_text (version_of circuit run.rules run.proofs) run.proofs

module _ (call : RunCall) (apart : HasNamesApart call) where
  -- gen wrote its products over what was held before
  abbrev WroteOver : Products → Folder → Folder → Type 0
  WroteOver products before after =
      after ≡ record { held = put_all before.held products.files; asked = before.asked ++ names_read (gen_stages call) }

  files_of : (before left : Folder) (net delay_file : List ℕ) (products : Products) → net ≡ bytes_at before.held call.net
      → delay_file ≡ bytes_at before.held call.delays → length net ≤ INPUT_LIMIT → length delay_file ≤ INPUT_LIMIT
      → All (λ scan. length scan ≤ INPUT_LIMIT) (scans_in call before) → GivesRun call net delay_file (scans_in call before) products
      → WroteOver products before left → LeftFiles call left
  files_of before left net delay_file products is_net is_delays net_within delays_within scans_within gives wrote =
      let given = gives.short.products_of_run in
      let c = gives.circuit in
      let tests = tests_text c given.run.tests in
      let report = report_text c given.run.paths in
      let proofs = proofs_text (version_of c given.run.rules given.run.proofs) given.run.proofs in
      let held : left.held ≡ put_all before.held (run_files call c given.run) =
      ap (λ (f : Folder). f.held) wrote ∙ ap (λ (p : Products). put_all before.held p.files) given.texts in
      let scans : scans_in call left ≡ scans_in call before =
      ap (λ (h : Contents). map (λ name. bytes_at h name) (scan_names call.mode)) held ∙ scans_left before.held call apart tests report proofs in
      record {
        net = net;
        delay_file = delay_file;
        net_within = net_within;
        delays_within = delays_within;
        circuit = c;
        has = gives.has;
        delays = gives.delays;
        has_delays = gives.has_delays;
        launch = gives.launch;
        has_launch = subst (λ (read : List (List ℕ)). HasLaunch call.mode c read gives.launch) (sym scans) gives.has_launch;
        scans_within = subst (All (λ (scan : List ℕ). length scan ≤ INPUT_LIMIT)) (sym scans) scans_within;
        short = gives.short.short;
        run = given.run;
        good = given.good;
        lawful = given.lawful;
        of_mode = searched_are gives.launch c given.run.rules given.rules;
        net_is = ap (λ (h : Contents). bytes_at h call.net) held ∙ net_left before.held call apart tests report proofs ∙ sym is_net;
        delays_is = ap (λ (h : Contents). bytes_at h call.delays) held ∙ delays_left before.held call apart tests report proofs ∙ sym is_delays;
        tests_is = ap (λ (h : Contents). bytes_at h call.tests) held ∙ tests_left before.held call apart tests report proofs;
        report_is = ap (λ (h : Contents). bytes_at h call.report) held ∙ report_left before.held call apart tests report proofs;
        proofs_is = ap (λ (h : Contents). bytes_at h call.proofs) held ∙ proofs_left before.held call apart tests report proofs;
      }

  -- behind NET and DELAYS, what the files told of the scan file was read, within its limit
  record ReadForMode (before : Folder) (mode : RunMode) (net delays : List ℕ) (inputs : List (List ℕ)) : Type 0 where
    within : All (λ scan. length scan ≤ INPUT_LIMIT) (map (λ name. bytes_at before.held name) (scan_names mode))
    are : inputs ≡ front_inputs net delays (map (λ name. bytes_at before.held name) (scan_names mode))

  read_for_mode : (before : Folder) (mode : RunMode) (net delays : List ℕ) (inputs : List (List ℕ))
      → Pass (gen_work call) (Some before) (launch_stages mode ++ short_stages call.paths) (net ∷ delays ∷ []) inputs
      → ReadForMode before mode net delays inputs
  read_for_mode before enhanced net delays inputs (path_text, (test_text, all)) =
      record { within = λ place d inside. absurd (omega (arith, inside)); are = all }
  read_for_mode before broadside net delays inputs (path_text, (test_text, all)) =
      record { within = λ place d inside. absurd (omega (arith, inside)); are = all }
  read_for_mode before (skewed scan) net delays inputs (text, is_scan, (size, (chains, (path_text, (test_text, all))))) = record {
    within = All-from_recursion (λ (bytes : List ℕ). length bytes ≤ INPUT_LIMIT) (bytes_at before.held scan ∷ [])
        (subst (λ (bytes : List ℕ). length bytes ≤ INPUT_LIMIT) is_scan (not_over role.Scan text size), tt);
    are = all ∙ ap (λ (bytes : List ℕ). front_inputs net delays (bytes ∷ [])) is_scan;
  }

  files_told : (folder : Option Folder) (left : Folder) (inputs : List (List ℕ)) (products : Products)
      → Pass (gen_work call) folder (gen_stages call) [] inputs → GivesGen call inputs products
      → Tells folder (Some left) (WroteOver products) → LeftFiles call left
  files_told None left inputs products passed gives wrote = absurd wrote
  files_told (Some before) left inputs products (net, is_net, (net_size, (circuit, (delays, is_delays, (delays_size, (spells_delays, later))))))
      gives wrote =
      let mode = read_for_mode before call.mode net delays inputs later in
      files_of before left net delays products is_net is_delays (not_over role.Net net net_size) (not_over role.Delays delays delays_size)
      mode.within (subst (λ (read : List (List ℕ)). GivesGen call read products) mode.are gives) wrote

  pub files_left : (left : Folder) → IsLeftBy (gen_work call) left → LeftFiles call left
  files_left left it =
      files_told it.old.files.folder left it.done.inputs it.done.products it.done.passed it.done.gives
      (subst (λ (folder : Option Folder). Tells it.old.files.folder folder (WroteOver it.done.products)) it.told it.done.files)
