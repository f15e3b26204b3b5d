-- Tests whose lines change few times, and the first test that has a line that changes too often, whichever waves the pair of a test gives
-- the lines (the limits are this project's own; delay_replay says which line is too much).
use Rattle.std.specs.Prelude.{◌≡◌, ⊤, ℕ, ◌+◌, List, ◌∷◌, ◌++◌, codes, decimal, length, All}
use Rattle.pd_base.specs.declared.test.Test.{Test}
use Rattle.pd_base.specs.Pair.{Vectors}
use Rattle.netlist.specs.Circuit.{Circuit}
use Rattle.netlist.specs.Waves.{Delays, Wave, wave_of}
use Rattle.delay_replay.specs.declared.line_waves.ReplayFault.{ReplayFault}
use Rattle.delay_replay.specs.declared.line_waves.ReplayFault.TheVariants as replay
use Rattle.delay_replay.specs.ChangeLimits.{HasFewOf, IsFirstOf}
use Rattle.calls.specs.CauseAndText.{refusal_for}
use Rattle.calls.specs.declared.cause.Cause.TheVariants as cause
use Rattle.calls.specs.declared.refusal.Refusal.{Refusal}
use Rattle.commands.specs.declared.replay.over.ReplayTextFault.{ReplayTextFault}
use Rattle.commands.specs.declared.replay.over.ReplayTextFault.TheVariants.{TooManyChanges, NoMemory}

-- the waves that a pair gives the lines, by line number
abbrev pub PairWaves : Type 0
PairWaves = Vectors → ℕ → Wave

-- under the pair of each of these tests the lines change few times
abbrev pub HaveFewOf : Circuit → PairWaves → List Test → Type 0
HaveFewOf c waves tests = All (λ test. HasFewOf c (waves test.pair)) tests

-- This is the number of the first test, counted from 1, under whose pair some line changes too often, and this the first such line in
-- rank order.
pub record IsFirstTestOf (c : Circuit) (waves : PairWaves) (tests : List Test) (number line : ℕ) : Type 0 where
  pub earlier : List Test
  pub test : Test
  pub later : List Test
  pub place : tests ≡ earlier ++ test ∷ later
  pub count : number ≡ length earlier + 1
  pub few_before : HaveFewOf c waves earlier
  pub too_much : IsFirstOf c (waves test.pair) line

-- the text of a replay is refused only at that test and that line, or for want of memory
abbrev pub RefusesTestsOf : Circuit → PairWaves → List Test → ReplayTextFault → Type 0
RefusesTestsOf c waves tests (TooManyChanges number line) = IsFirstTestOf c waves tests number line.0
RefusesTestsOf c waves tests (NoMemory _) = ⊤

-- the same, where each pin has one delay
abbrev pub HaveFewChanges : Circuit → Delays → List Test → Type 0
HaveFewChanges c delays = HaveFewOf c (λ pair. wave_of c pair delays)

abbrev pub IsFirstTestOver : Circuit → Delays → List Test → ℕ → ℕ → Type 0
IsFirstTestOver c delays = IsFirstTestOf c (λ pair. wave_of c pair delays)

abbrev pub RefusesTests : Circuit → Delays → List Test → ReplayTextFault → Type 0
RefusesTests c delays = RefusesTestsOf c (λ pair. wave_of c pair delays)

-- the fault of a text at the test of this number
abbrev pub replay_text_fault : ℕ → ReplayFault → ReplayTextFault
replay_text_fault number (replay.TooManyChanges line) = TooManyChanges number line
replay_text_fault number (replay.NoMemory refused) = NoMemory refused

-- under the pair of the test of this number the line of this name changes too often
abbrev pub changes_too_often : ℕ → List ℕ → Refusal
changes_too_often number name = refusal_for cause.Size (codes "size: test " ++ decimal number ++ codes " line " ++ name)
