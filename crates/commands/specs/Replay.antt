-- The command `replay`: its stages, what it refuses, and what it gives. Where a call ends with status 0, out has one line for each test
-- of TESTS: what the observed lines have at TIME under the test's pair and the delays, and whether these are the bits that the test
-- expects (this project's own).
use Rattle.std.specs.Prelude.{◌≡◌, ℕ, pos, List, [], ◌∷◌, ◌++◌, codes}
use Rattle.pd_base.specs.declared.test.Test.{Test}
use Rattle.netlist.specs.Circuit.{Circuit}
use Rattle.netlist.specs.Names.{name_at}
use Rattle.netlist.specs.Waves.{Delays}
use Rattle.bench_reader.specs.Circuits.{HasCircuit}
use Rattle.delay_annotation.specs.DelayFile.{HasDelays}
use Rattle.command_line.specs.Words.{ReplayCall}
use Rattle.calls.specs.declared.role.Role.TheVariants as role
use Rattle.calls.specs.declared.refusal.Refusal.{Refusal}
use Rattle.calls.specs.Work.{Work, Stage, Require, Products}
use Rattle.commands.specs.InputRequirements.{InputCommand, Requirement, WellFormed, input_stages, own, read_stages, work_on_inputs}
use Rattle.commands.specs.SpelledTests.{SpellsTests}
use Rattle.commands.specs.ReplayText.{replay_text}
use Rattle.commands.specs.TestChanges.{HaveFewChanges, IsFirstTestOver, changes_too_often}

-- what replay requires beside what is required alike
pub data ReplayRequirement : Type 0 where
  -- under no test's pair the waves have too many changes
  FewChanges : ReplayRequirement

-- TESTS is read, and has to have its form; then the lines may not change too often under any test's pair
abbrev pub tests_stages : ReplayCall → List (Stage (Requirement ReplayRequirement))
tests_stages call = read_stages role.Tests call.tests ++ Require (WellFormed role.Tests 2) ∷ Require (own FewChanges) ∷ []

-- before that NET and DELAYS are read and judged
abbrev pub replay_stages : ReplayCall → List (Stage (Requirement ReplayRequirement))
replay_stages call = input_stages call.net call.delays ++ tests_stages call

-- NET has this circuit, DELAYS gives these delays to its pins, and TESTS is the file of these tests
pub record AreReplayed (net delays tests : List ℕ) (c : Circuit) (given : Delays) (listed : List Test) : Type 0 where
  pub has : HasCircuit net c
  pub gives : HasDelays c delays given
  pub spells : SpellsTests c tests listed

-- Under the pair of a test some line changes too often, which is refused for the first such line in rank order of the first such test.
pub record HasTestOver (net delays tests : List ℕ) (refusal : Refusal) : Type 0 where
  pub circuit : Circuit
  pub given : Delays
  pub listed : List Test
  pub are : AreReplayed net delays tests circuit given listed
  pub number : ℕ
  pub line : ℕ
  pub first : IsFirstTestOver circuit given listed number line
  pub is : refusal ≡ changes_too_often number (name_at circuit line)

-- what replay refuses by a requirement of its own
abbrev pub RefusesChanges : ReplayRequirement → List (List ℕ) → Refusal → Type 0
RefusesChanges FewChanges (net ∷ delays ∷ tests ∷ []) refusal = HasTestOver net delays tests refusal
RefusesChanges FewChanges inputs refusal = ⊥

-- on out the text of the replay at this time of the tests that TESTS spells, and no file
pub record GivesReplayed (time : ℕ) (net delays tests : List ℕ) (products : Products) : Type 0 where
  pub circuit : Circuit
  pub given : Delays
  pub listed : List Test
  pub are : AreReplayed net delays tests circuit given listed
  pub few : HaveFewChanges circuit given listed
  pub text : products ≡ record { files = []; out = replay_text circuit given listed (pos time) }

-- what replay gives for its three inputs
abbrev pub GivesReplay : ReplayCall → List (List ℕ) → Products → Type 0
GivesReplay call (net ∷ delays ∷ tests ∷ []) products = GivesReplayed call.time net delays tests products
GivesReplay call inputs products = ⊥

-- the command with its names and its time
abbrev pub replay_command : ReplayCall → InputCommand
replay_command call = record {
  Own = ReplayRequirement;
  word = codes "replay";
  stages = replay_stages call;
  RefusesOwn = RefusesChanges;
  Gives = GivesReplay call;
}

-- its work
abbrev pub replay_work : ReplayCall → Work
replay_work call = work_on_inputs (replay_command call)
