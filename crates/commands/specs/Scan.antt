-- The command `scan`: its stages, what it refuses, and what it gives. Where a call ends with status 0, out has one line for each test of
-- TESTS: its number and, chain by chain, the bits that a tester shifts in. All of them but the last load the first vector of the test's pair,
-- and one more shift launches the second (this project's own).
use Rattle.std.specs.Prelude.{◌≡◌, ℕ, List, [], ◌∷◌, ◌++◌, All, codes, decimal}
use Rattle.pd_base.specs.declared.ids.LineId.{LineId}
use Rattle.pd_base.specs.declared.test.Test.{Test}
use Rattle.netlist.specs.Circuit.{Circuit}
use Rattle.bench_reader.specs.Circuits.{HasCircuit}
use Rattle.scan_order.specs.ScanFile.{HasChains}
use Rattle.scan_load.specs.Shifting.{IsLoadable, Loads, load_bits}
use Rattle.command_line.specs.Words.{ScanCall}
use Rattle.calls.specs.CauseAndText.{refusal_for}
use Rattle.calls.specs.declared.cause.Cause.TheVariants as cause
use Rattle.calls.specs.declared.refusal.Refusal.{Refusal}
use Rattle.calls.specs.declared.role.Role.TheVariants as role
use Rattle.calls.specs.Work.{Work, Stage, Require, Products}
use Rattle.commands.specs.Grading.{IsFirstWithout}
use Rattle.commands.specs.InputRequirements.{InputCommand, Requirement, WellFormed, net_stages, own, read_stages, scan_stages, work_on_inputs}
use Rattle.commands.specs.ModeRules.{IsOfMode}
use Rattle.commands.specs.ScanText.{load_text}
use Rattle.commands.specs.SpelledTests.{SpellsTests}
use Rattle.commands.specs.declared.launch.Launch.TheVariants.{Skewed}

-- what scan requires beside what is required alike
pub data ScanRequirement : Type 0 where
  -- the last shift of the chains launches the pair of each test
  LaunchesPairs : ScanRequirement

-- NET is read and judged, and then SCAN
abbrev pub scan_front : ScanCall → List (Stage (Requirement ScanRequirement))
scan_front call = net_stages call.net ++ scan_stages 1 call.scan

-- TESTS is read behind them, and has to have its form; then the last shift has to launch each pair
abbrev pub scan_command_stages : ScanCall → List (Stage (Requirement ScanRequirement))
scan_command_stages call =
    scan_front call ++ read_stages role.Tests call.tests ++ Require (WellFormed role.Tests 2) ∷ Require (own LaunchesPairs) ∷ []

-- NET has this circuit, SCAN gives these chains of it, and TESTS is the file of these tests
pub record AreScanned (net scan tests : List ℕ) (c : Circuit) (chains : List (List LineId)) (listed : List Test) : Type 0 where
  pub has : HasCircuit net c
  pub gives : HasChains c scan chains
  pub spells : SpellsTests c tests listed

-- the pair of the test is launched by the last shift of these chains: the second vector has at each flip-flop but the first of a chain what
-- the first has at the flip-flop before it
abbrev pub IsOfLastShift : Circuit → List (List LineId) → Test → Type 0
IsOfLastShift c chains test = IsOfMode (Skewed chains) c test.pair

-- in each of these chains some bits load the pair of the test
abbrev pub CanBeLoaded : List (List LineId) → Test → Type 0
CanBeLoaded chains test = All (λ chain. IsLoadable chain test.pair) chains

-- the pair of the test of this number can't be loaded
abbrev pub unlaunched_pair : ℕ → Refusal
unlaunched_pair number = refusal_for cause.Pair (codes "scan: test " ++ decimal number ++ codes " pair")

-- in some chain no bits load the pair of some test, which is refused for the first such test
pub record HasUnlaunchedPair (net scan tests : List ℕ) (refusal : Refusal) : Type 0 where
  pub circuit : Circuit
  pub chains : List (List LineId)
  pub listed : List Test
  pub are : AreScanned net scan tests circuit chains listed
  pub number : ℕ
  pub first : IsFirstWithout (CanBeLoaded chains) listed number
  pub is : refusal ≡ unlaunched_pair number

-- what scan refuses by a requirement of its own
abbrev pub RefusesPairs : ScanRequirement → List (List ℕ) → Refusal → Type 0
RefusesPairs LaunchesPairs (net ∷ scan ∷ tests ∷ []) refusal = HasUnlaunchedPair net scan tests refusal
RefusesPairs LaunchesPairs inputs refusal = ⊥

-- these bits, in each of the chains, load the pair of the test
abbrev pub AreLoaded : List (List LineId) → Test → Type 0
AreLoaded chains test = All (λ chain. Loads chain test.pair (load_bits chain test.pair)) chains

-- on out the text of the tests that TESTS spells, whose bits load their pairs, and no file
pub record GivesLoads (net scan tests : List ℕ) (products : Products) : Type 0 where
  pub circuit : Circuit
  pub chains : List (List LineId)
  pub listed : List Test
  pub are : AreScanned net scan tests circuit chains listed
  pub shifted : All (IsOfLastShift circuit chains) listed
  pub loads : All (AreLoaded chains) listed
  pub text : products ≡ record { files = []; out = load_text chains listed }

-- what scan gives for its three inputs
abbrev pub GivesScan : List (List ℕ) → Products → Type 0
GivesScan (net ∷ scan ∷ tests ∷ []) products = GivesLoads net scan tests products
GivesScan inputs products = ⊥

-- the command with its names
abbrev pub scan_command : ScanCall → InputCommand
scan_command call = record {
  Own = ScanRequirement;
  word = codes "scan";
  stages = scan_command_stages call;
  RefusesOwn = RefusesPairs;
  Gives = GivesScan;
}

-- its work
abbrev pub scan_work : ScanCall → Work
scan_work call = work_on_inputs (scan_command call)
