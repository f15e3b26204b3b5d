-- The command `rfreplay`: its stages, what it refuses, and what it gives. Where a call ends with status 0, out has one line for each test of
-- TESTS: what the observed lines have at TIME under the test's pair and the rise and fall delays of DELAYS, whether these are the bits that
-- the test expects, and whether its path, as REPORT lists it, is late then (this project's own).
use Rattle.std.specs.Prelude.{◌≡◌, ℕ, List, [], ◌∷◌, ◌++◌, codes, All}
use Rattle.pd_base.specs.declared.test.Test.{Test}
use Rattle.netlist.specs.Circuit.{Circuit}
use Rattle.netlist.specs.Names.{name_at}
use Rattle.bench_reader.specs.Circuits.{HasCircuit}
use Rattle.delay_annotation.specs.DelayFile.{HasRiseFall}
use Rattle.delay_annotation.specs.declared.setting.Columns.TheVariants.{RiseAndFall}
use Rattle.rise_fall.specs.Waves.{RiseFallDelays, rise_fall_wave}
use Rattle.runs.specs.declared.run.ListedPath.{ListedPath}
use Rattle.command_line.specs.Words.{RiseFallReplayCall}
use Rattle.calls.specs.declared.refusal.Refusal.{Refusal}
use Rattle.calls.specs.Work.{Work, Stage, Require, Products}
use Rattle.commands.specs.InputRequirements.{InputCommand, Requirement, delays_stages, own, tests_and_report_forms, tests_and_report_stages, work_on_inputs}
use Rattle.commands.specs.Replay.{FewChanges, ReplayRequirement}
use Rattle.commands.specs.RiseFallReplayText.{IsRiseFallText, KeepsLatePromises, RiseFallSampling}
use Rattle.commands.specs.SpelledRuns.{SpellTestsAndPaths}
use Rattle.commands.specs.TestChanges.{HaveFewOf, IsFirstTestOf, PairWaves, changes_too_often}

-- NET and DELAYS are read and judged, then TESTS and REPORT read, and then these have to have their form
abbrev pub rise_fall_front : RiseFallReplayCall → List (Stage (Requirement ReplayRequirement))
rise_fall_front call =
    delays_stages RiseAndFall call.net call.delays ++ tests_and_report_stages call.tests call.report ++ tests_and_report_forms 2

-- at last the lines may not change too often under any test's pair
abbrev pub rise_fall_replay_stages : RiseFallReplayCall → List (Stage (Requirement ReplayRequirement))
rise_fall_replay_stages call = rise_fall_front call ++ Require (own FewChanges) ∷ []

-- the bytes of the four files
pub record FourTexts : Type 0 where
  pub net : List ℕ
  pub delays : List ℕ
  pub tests : List ℕ
  pub report : List ℕ

-- what they are read as
pub record RiseFallInputs : Type 0 where
  pub circuit : Circuit
  pub delays : RiseFallDelays
  pub tests : List Test
  pub paths : List ListedPath

-- NET has this circuit, DELAYS gives these delays to its pins, TESTS is the file of these tests, and REPORT lists these paths
pub record AreReadAs (texts : FourTexts) (read : RiseFallInputs) : Type 0 where
  pub has : HasCircuit texts.net read.circuit
  pub gives : HasRiseFall read.circuit texts.delays read.delays
  pub spell : SpellTestsAndPaths read.circuit texts.tests texts.report read.tests read.paths

-- the waves that a pair gives the lines
abbrev pub waves_under : RiseFallInputs → PairWaves
waves_under read pair = rise_fall_wave read.circuit pair read.delays

-- Under the pair of a test some line changes too often, which is refused for the first such line in rank order of the first such test.
pub record HasRiseFallTestOver (texts : FourTexts) (refusal : Refusal) : Type 0 where
  pub read : RiseFallInputs
  pub are : AreReadAs texts read
  pub number : ℕ
  pub line : ℕ
  pub first : IsFirstTestOf read.circuit (waves_under read) read.tests number line
  pub is : refusal ≡ changes_too_often number (name_at read.circuit line)

-- what rfreplay refuses by a requirement of its own
abbrev pub RefusesRiseFallChanges : ReplayRequirement → List (List ℕ) → Refusal → Type 0
RefusesRiseFallChanges FewChanges (net ∷ delays ∷ tests ∷ report ∷ []) refusal =
    HasRiseFallTestOver (record { net = net; delays = delays; tests = tests; report = report }) refusal
RefusesRiseFallChanges FewChanges inputs refusal = ⊥

-- with what these inputs are replayed at a time
abbrev pub sampling_at : ℕ → RiseFallInputs → RiseFallSampling
sampling_at time read = record { circuit = read.circuit; delays = read.delays; paths = read.paths; time = time }

-- on out a line for each test that TESTS spells, replayed at this time, which keeps what it promises; and no file
pub record GivesRiseFallReplayed (time : ℕ) (texts : FourTexts) (products : Products) : Type 0 where
  pub read : RiseFallInputs
  pub are : AreReadAs texts read
  pub few : HaveFewOf read.circuit (waves_under read) read.tests
  pub text : IsRiseFallText (sampling_at time read) read.tests products.out
  pub promises : All (KeepsLatePromises (sampling_at time read)) text.judged
  pub no_file : products.files ≡ []

-- what rfreplay gives for its four inputs
abbrev pub GivesRiseFallReplay : RiseFallReplayCall → List (List ℕ) → Products → Type 0
GivesRiseFallReplay call (net ∷ delays ∷ tests ∷ report ∷ []) products =
    GivesRiseFallReplayed call.time (record { net = net; delays = delays; tests = tests; report = report }) products
GivesRiseFallReplay call inputs products = ⊥

-- the command with its names and its time
abbrev pub rise_fall_replay_command : RiseFallReplayCall → InputCommand
rise_fall_replay_command call = record {
  Own = ReplayRequirement;
  word = codes "rfreplay";
  stages = rise_fall_replay_stages call;
  RefusesOwn = RefusesRiseFallChanges;
  Gives = GivesRiseFallReplay call;
}

-- its work
abbrev pub rise_fall_replay_work : RiseFallReplayCall → Work
rise_fall_replay_work call = work_on_inputs (rise_fall_replay_command call)
