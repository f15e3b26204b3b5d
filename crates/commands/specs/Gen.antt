-- The command `gen`: its stages, what it refuses, and what it gives. Where a call ends with status 0, its three files hold the
-- texts of one good run: it lists the first paths by nonincreasing length, each once, with one verdict for each transition, and each
-- test, refutation and spent budget is one; what its verdicts promise is said in Promises.antt of good_runs (this project's own).
use Rattle.std.specs.Prelude.{◌≡◌, ℕ, List, [], ◌∷◌, ◌++◌, codes}
use Rattle.netlist.specs.Circuit.{Circuit}
use Rattle.netlist.specs.Waves.{Delays}
use Rattle.runs.specs.declared.run.Run.{Run}
use Rattle.runs.specs.Lawful.{IsLawfulRun}
use Rattle.good_runs.specs.GoodRun.{IsGoodRun}
use Rattle.good_runs.specs.Promises.{AllKeepPromises}
use Rattle.good_runs.specs.Shortest.{IsShortestRun}
use Rattle.good_runs.specs.ZeroOutside.{LeavesZeroOutside}
use Rattle.bench_reader.specs.Circuits.{HasCircuit}
use Rattle.delay_annotation.specs.DelayFile.{HasDelays}
use Rattle.run_files.specs.TestsText.{tests_text}
use Rattle.run_files.specs.PlainTexts.{HasPlainNames}
use Rattle.run_files.specs.ReportText.{report_text}
use Rattle.run_files.specs.ProofsText.{proofs_text}
use Rattle.run_files.specs.ProofsVersions.{version_of}
use Rattle.run_files.specs.Summary.{summary_text}
use Rattle.command_line.specs.Words.{RunCall}
use Rattle.calls.specs.declared.role.Role.TheVariants as role
use Rattle.calls.specs.Work.{Work, Stage, Due, due_file, Products}
use Rattle.commands.specs.InputRequirements.{InputCommand, RefusesNoMore, Requirement, short_stages, work_on_inputs}
use Rattle.commands.specs.ModeRules.{searched_rules}
use Rattle.commands.specs.LaunchModes.{HasLaunch}
use Rattle.commands.specs.RunTexts.{run_input_stages}
use Rattle.commands.specs.Sizes.{HasShortTexts}
use Rattle.commands.specs.declared.launch.Launch.{Launch}
use Rattle.commands.specs.declared.preparing.Generated.{Generated}
use Rattle.commands.specs.declared.preparing.ToldRun.{ToldRun}

-- NET is read, and has to have a circuit; then DELAYS is read, and has to give delays; for a skewed load SCAN is read, and has to give
-- chains; then the texts have to be short
abbrev pub gen_stages : RunCall → List (Stage (Requirement ⊥))
gen_stages call = run_input_stages call ++ short_stages call.paths

-- the files that are written for a circuit and a run
abbrev pub tests_due : RunCall → Circuit → Run → Due
tests_due call c run = due_file role.Tests call.tests (tests_text c run.tests)

abbrev pub report_due : RunCall → Circuit → Run → Due
report_due call c run = due_file role.Report call.report (report_text c run.paths)

abbrev pub proofs_due : RunCall → Circuit → Run → Due
proofs_due call c run = due_file role.Proofs call.proofs (proofs_text (version_of c run.rules run.proofs) run.proofs)

-- these, in the order in which they are written
abbrev pub run_files : RunCall → Circuit → Run → List Due
run_files call c run = tests_due call c run ∷ report_due call c run ∷ proofs_due call c run ∷ []

-- the files that are written for a circuit and a run, and the line on out
abbrev pub gen_products : RunCall → Circuit → Run → Products
gen_products call c run = record { files = run_files call c run; out = summary_text run }

-- the products are the texts of one good run under the rules of the launch, for the paths and the budget that are asked for, which the files
-- can spell: its tests are numbered in the order of the report, and each proof where it is first named; its verdicts keep their promises,
-- a refutation whose prefix implication alone refutes is one closed leaf at the shortest such prefix, and a test leaves the sources outside
-- the support of its path at 0, as far as no link gives them their bits
pub record GivesProductsOf (call : RunCall) (c : Circuit) (delays : Delays) (launch : Launch) (products : Products) : Type 0 where
  pub run : Run
  pub rules : run.rules ≡ searched_rules launch c
  pub good : IsGoodRun c delays call.paths call.budget run
  pub lawful : IsLawfulRun c run
  pub promises : AllKeepPromises c call.budget run
  pub shortest : IsShortestRun c run
  pub zero_outside : LeavesZeroOutside c run
  pub texts : products ≡ gen_products call c run

-- the texts are short, and the products are those of a good run
pub record GivesShort (call : RunCall) (c : Circuit) (delays : Delays) (launch : Launch) (products : Products) : Type 0 where
  pub short : HasShortTexts call.paths c
  pub products_of_run : GivesProductsOf call c delays launch products

-- NET has this circuit, DELAYS gives these delays to its pins, so pairs are launched, the texts are short, and the products are those of a
-- good run for them
pub record GivesRun (call : RunCall) (net delay_file : List ℕ) (scans : List (List ℕ)) (products : Products) : Type 0 where
  pub circuit : Circuit
  pub has : HasCircuit net circuit
  pub delays : Delays
  pub has_delays : HasDelays circuit delay_file delays
  pub launch : Launch
  pub has_launch : HasLaunch call.mode circuit scans launch
  pub short : GivesShort call circuit delays launch products

-- what gen gives for its inputs
abbrev pub GivesGen : RunCall → List (List ℕ) → Products → Type 0
GivesGen call (net ∷ delays ∷ scans) products = GivesRun call net delays scans products
GivesGen call inputs products = ⊥

-- the command with its names and numbers
abbrev pub gen_command : RunCall → InputCommand
gen_command call = record {
  Own = ⊥;
  word = codes "gen";
  stages = gen_stages call;
  RefusesOwn = RefusesNoMore;
  Gives = GivesGen call;
}

-- its work
abbrev pub gen_work : RunCall → Work
gen_work call = work_on_inputs (gen_command call)

-- a run that the three files can spell, of a circuit whose names call for no quotes
pub record CanBeWritten (c : Circuit) (run : Run) : Type 0 where
  pub lawful : IsLawfulRun c run
  pub names : HasPlainNames c

-- the products that are written for a circuit and a run with its summary
abbrev pub told_products : RunCall → Circuit → ToldRun → Products
told_products call c told = record { files = run_files call c told.run; out = told.summary.items }

-- those that are written for what a call made
abbrev pub generated_products : RunCall → Generated → Products
generated_products call generated = told_products call generated.net generated.told
