-- A good run that the files can spell has numbers and trees such as the program keeps, and its three texts are short.
use Rattle.std.proofs.Common.{◌≡◌, ◌≤◌, ◌<◌, ◌^◌, ⊎_elim, ℕ, true, false, List, [], ◌∷◌, length, map, get_or, refl, arith, All}
use Rattle.std.specs.List.{AllByRecursion}
use Rattle.std.proofs.lemmas.Bool.{cases_Bool}
use Rattle.std.proofs.lemmas.List.{length-map}
use Rattle.std.proofs.lemmas.List.Elements.{All-from_recursion, recursion_from_All}
use Rattle.pd_base.specs.declared.limits.TheConstants.{MOST_BYTES, MOST_PATHS}
use Rattle.netlist.specs.Circuit.{Circuit}
use Rattle.netlist.specs.Lawful.{IsCircuit}
use Rattle.netlist.specs.Levels.{greatest_level}
use Rattle.netlist.specs.Paths.{length_of, IsPath}
use Rattle.netlist.specs.Waves.{Delays}
use Rattle.path_laws.proofs.StepCounts.{prefix_has_few_steps, steps_within_levels}
use Rattle.delay_annotation.specs.DelayFile.{HasDelays}
use Rattle.runs.specs.declared.run.ListedPath.{ListedPath}
use Rattle.runs.specs.declared.run.Proof.{Proof}
use Rattle.runs.specs.declared.run.Run.{Run}
use Rattle.runs.specs.Lawful.{IsLawfulRun}
use Rattle.trees.specs.Trees.{split_count, IsTree}
use Rattle.good_runs.specs.Faults.{routes_of}
use Rattle.good_runs.specs.GoodRun.{IsGoodRefutation, IsGoodRun, IsGoodSpent}
use Rattle.good_runs.proofs.FirstOnce.{few_first}
use Rattle.run_files.specs.TestsText.{tests_text}
use Rattle.run_files.specs.ProofsReading.{AreSpelledProofs}
use Rattle.run_files.specs.declared.version.ProofsVersion.{ProofsVersion}
use Rattle.run_files.specs.ProofsText.{proofs_text}
use Rattle.run_files.specs.ProofsVersions.{version_of}
use Rattle.run_files.proofs.Versions.{lawful_is_spelled, written_is_of}
use Rattle.run_files.specs.ReportForm.{IsSpelledReport}
use Rattle.run_files.specs.ReportText.{report_text}
use Rattle.command_line.specs.Words.{HasRunNumbers, RunCall}
use Rattle.commands.specs.ModeRules.{AreRulesOf}
use Rattle.commands.specs.SpelledRuns.{SpellsRun}
use Rattle.commands.specs.Sizes.{HasShortTexts}
use Rattle.commands.specs.declared.launch.Launch.{Launch}
use Rattle.commands.proofs.PathLengths.{length_within}
use Rattle.commands.proofs.ProofsBound.{proofs_within, IsShortProof}
use Rattle.commands.proofs.ReportBound.{report_within}
use Rattle.commands.proofs.RunCounts.{four_proofs_each, small_falls, small_rises, two_tests_each}
use Rattle.commands.proofs.TestsBound.{tests_within}

-- no text is longer than a reader takes
pub record CanBeRead (c : Circuit) (run : Run) : Type 0 where
  pub tests : length (tests_text c run.tests) ≤ MOST_BYTES
  pub report : length (report_text c run.paths) ≤ MOST_BYTES
  pub proofs : length (proofs_text (version_of c run.rules run.proofs) run.proofs) ≤ MOST_BYTES

module _ (c : Circuit) (circuit : IsCircuit c) (call : RunCall) (numbers : HasRunNumbers call) (delay_file : List ℕ) (delays : Delays)
    (has : HasDelays c delay_file delays) (run : Run) (good : IsGoodRun c delays call.paths call.budget run) (lawful : IsLawfulRun c run) where
  -- no more paths than were asked for
  few_listed : length run.paths ≤ call.paths
  few_listed =
      omega (
        arith,
        few_first c delays call.paths (routes_of run) good.first.full,
        length-map run.paths (λ (listed : ListedPath). listed.path),
      )

  are_few : length run.paths ≤ MOST_PATHS
  are_few = omega (arith, few_listed, numbers.few_paths)

  paths_of : AllByRecursion (IsPath c) (routes_of run)
  paths_of = recursion_from_All (IsPath c) (routes_of run) good.first.are_paths

  -- a path has no more steps than there are levels
  few_steps : (paths : List ListedPath) → AllByRecursion (IsPath c) (map (λ (listed : ListedPath). listed.path) paths)
      → AllByRecursion (λ (listed : ListedPath). length listed.path.steps ≤ greatest_level c) paths
  few_steps [] are = tt
  few_steps (listed ∷ paths) are = (
    steps_within_levels c circuit listed.path.source.0 listed.path.steps (omega (arith, are.0.prefix.source)) are.0.prefix.connects,
    few_steps paths are.1,
  )

  -- and so a length of 64 bits
  small_lengths : (paths : List ListedPath) → AllByRecursion (IsPath c) (map (λ (listed : ListedPath). listed.path) paths)
      → AllByRecursion (λ (listed : ListedPath). listed.length ≡ length_of delays listed.path) paths
      → AllByRecursion (λ (listed : ListedPath). listed.length < 2 ^ 64) paths
  small_lengths [] are long = tt
  small_lengths (listed ∷ paths) are long = (
    omega (arith, long.0, length_within c delay_file delays has listed.path are.0, prefix_has_few_steps c circuit listed.path are.0.prefix),
    small_lengths paths are.1 long.1,
  )

  spelled_report : IsSpelledReport c run.paths
  spelled_report = record {
    lawful = lawful.report;
    lengths = All-from_recursion (λ (listed : ListedPath). listed.length < 2 ^ 64) run.paths
        (small_lengths run.paths paths_of
        (recursion_from_All (λ (listed : ListedPath). listed.length ≡ length_of delays listed.path) run.paths good.lengths));
    rises = small_rises run.paths are_few lawful.report.numbered;
    falls = small_falls run.paths are_few lawful.report.numbered;
  }

  -- a proof has a whole tree, with no more splits than the budget
  record HasShortTree (proof : Proof) : Type 0 where
    whole : IsTree proof.tree
    few_splits : split_count proof.tree ≤ call.budget

  has_short_tree : (proof : Proof) → (proof.spent ≡ false → IsGoodRefutation c run.rules call.budget (routes_of run) proof)
      → (proof.spent ≡ true → IsGoodSpent c run.rules call.budget (routes_of run) proof) → HasShortTree proof
  has_short_tree proof refutes spends =
      ⊎_elim
      (λ (is : proof.spent ≡ true).
      let spent = (spends is).is_spent in
      record { whole = (spent.cases, spent.tree); few_splits = omega (arith, spent.splits) })
      (λ (is : proof.spent ≡ false).
      let good_proof = refutes is in
      record { whole = (good_proof.refutation.cases, good_proof.refutation.tree); few_splits = good_proof.within_budget })
      (cases_Bool proof.spent)

  tree_at : (place : ℕ) (d : Proof) → place < length run.proofs → HasShortTree (get_or run.proofs place d)
  tree_at place d within = has_short_tree (get_or run.proofs place d) (good.refutations place d within) (good.spent place d within)

  -- the version in which the proofs are written
  abbrev version : ProofsVersion
  version = version_of c run.rules run.proofs

  spelled_proofs : AreSpelledProofs c version run.proofs
  spelled_proofs = lawful_is_spelled c run.rules run.proofs lawful.proofs (λ place d within. (tree_at place d within).whole)

  short_proofs : All (IsShortProof c circuit version call.budget) run.proofs
  short_proofs place d within = record {
    lawful = lawful.proofs.lawful place d within;
    nodes = spelled_proofs.nodes place d within;
    whole = (tree_at place d within).whole;
    few_splits = (tree_at place d within).few_splits;
  }

  pub spelled_run : (launch : Launch) → AreRulesOf launch c run.rules
      → SpellsRun launch c (tests_text c run.tests) (report_text c run.paths) (proofs_text version run.proofs) run
  spelled_run launch of_mode = record {
    tests_are = record { lawful = lawful.tests; is_text = refl };
    report_is = record { lawful = spelled_report; is_text = refl };
    of_mode = of_mode;
    proofs_are = record {
      version = version;
      of_rules = written_is_of c run.rules run.proofs;
      spells = record { lawful = spelled_proofs; is_text = refl };
    };
  }

  pub readable_texts : HasShortTexts call.paths c → CanBeRead c run
  readable_texts short = record {
    tests = tests_within c circuit call.paths run.tests numbers.few_paths short.test_text lawful.tests
        (omega (arith, good.tests_cited, two_tests_each run.paths, few_listed));
    report = report_within c circuit call.paths run.paths numbers.few_paths short.path_text spelled_report
        (All-from_recursion (λ (listed : ListedPath). length listed.path.steps ≤ greatest_level c) run.paths (few_steps run.paths paths_of)) few_listed;
    proofs = proofs_within c circuit version call.budget call.paths run.proofs numbers.few_paths numbers.product short_proofs
        (omega (arith, good.proofs_cited, four_proofs_each run.paths lawful.report.numbered, few_listed));
  }
