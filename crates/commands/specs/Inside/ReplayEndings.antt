-- How a call of `replay` or `rfreplay` ends whose text was not made (this project's own).
use Rattle.std.specs.Prelude.{◌≡◌, ⊤, ℕ, ◌<◌, List}
use Rattle.pd_base.specs.Memory.{out_of_memory}
use Rattle.pd_base.specs.declared.test.Test.{Test}
use Rattle.netlist.specs.Circuit.{Circuit, line_count}
use Rattle.netlist.specs.Names.{name_at}
use Rattle.netlist.specs.Waves.{Delays, wave_of}
use Rattle.calls.specs.declared.ending.Ending.{Ending}
use Rattle.calls.specs.declared.ending.Ending.TheVariants as ended
use Rattle.commands.specs.TestChanges.{IsFirstTestOf, PairWaves, changes_too_often}
use Rattle.commands.specs.declared.replay.over.ReplayTextFault.{ReplayTextFault}
use Rattle.commands.specs.declared.replay.over.ReplayTextFault.TheVariants.{TooManyChanges, NoMemory}

-- a fault of a text names a line of the circuit, if it names one
abbrev pub NamesLine : Circuit → ReplayTextFault → Type 0
NamesLine c (TooManyChanges number line) = line.0 < line_count c
NamesLine c (NoMemory _) = ⊤

-- a call ends so for a fault of its text: the test and the name of the line are told, or memory ran out
pub data EndsForFault (c : Circuit) (fault : ReplayTextFault) (ending : Ending) : Type 0 where
  told : (number line : ℕ) → fault ≡ TooManyChanges number (record { 0 = line })
      → ending ≡ ended.Refused (changes_too_often number (name_at c line)) → EndsForFault c fault ending
  no_memory : ending ≡ ended.NoMemory out_of_memory → EndsForFault c fault ending

-- there is no text of the replay of these tests, where their pairs give the lines these waves
pub data FailsReplayOf (c : Circuit) (waves : PairWaves) (tests : List Test) (ending : Ending) : Type 0 where
  -- the lines change too often under the pair of some test, which is told
  over : (number line : ℕ) → ending ≡ ended.Refused (changes_too_often number (name_at c line))
      → IsFirstTestOf c waves tests number line → FailsReplayOf c waves tests ending
  -- memory ran out
  lacks_memory : ending ≡ ended.NoMemory out_of_memory → FailsReplayOf c waves tests ending

-- the same, where each pin has one delay
abbrev pub FailsReplay : Circuit → Delays → List Test → Ending → Type 0
FailsReplay c delays = FailsReplayOf c (λ pair. wave_of c pair delays)
