-- The parts of a replay: the waves of the sources, those that stand for gates before their turn, and the turn of one gate
-- (this project's own).
use Rattle.std.specs.Prelude.{◌≡◌, ⊤, ℕ, ◌+◌, ◌<◌, List, ◌++◌, length, All}
use Rattle.pd_base.specs.Pair.{Vectors}
use Rattle.netlist.specs.Circuit.{Circuit, source_count}
use Rattle.netlist.specs.Waves.{Wave, source_wave}
use Rattle.delay_replay.specs.declared.gate.TheConstants.{MOST_CHANGES}
use Rattle.delay_replay.specs.Changes.{Changes, AreChangesOf, ChangesOver, IsBounded}
use Rattle.delay_replay.specs.declared.line_waves.TheConstants.{MOST_CHANGES_OF_ALL}
use Rattle.delay_replay.specs.declared.line_waves.ReplayFault.{ReplayFault}
use Rattle.delay_replay.specs.declared.line_waves.ReplayFault.TheVariants.{TooManyChanges, NoMemory}
use Rattle.delay_replay.specs.LineWaves.{kept_wave}

-- these are the waves of all sources
pub record AreSourceWaves (c : Circuit) (pair : Vectors) (waves : List Changes) : Type 0 where
  pub one_each : length waves ≡ source_count c
  pub each : (source : ℕ) → source < source_count c → AreChangesOf (source_wave pair source) (kept_wave waves source)

-- so many more waves stand behind the old ones, and they are bounded
pub record AddsWaves (count : ℕ) (old new : List Changes) : Type 0 where
  pub added : List Changes
  pub so_many : length added ≡ count
  pub bounded : All IsBounded added
  pub behind : new ≡ old ++ added

-- a wave has too many changes by itself, or together with those that are counted already
pub data IsOver (wave : Wave) (total : ℕ) : Type 0 where
  by_itself : ChangesOver wave MOST_CHANGES → IsOver wave total
  together : (changes : Changes) → AreChangesOf wave changes → MOST_CHANGES_OF_ALL < total + length changes.times
      → IsOver wave total

-- the turn of a gate whose line has this number is refused for its line's changes, or for want of memory
abbrev pub RefusesGate : Wave → ℕ → ℕ → ReplayFault → Type 0
RefusesGate wave own total (TooManyChanges line) = (line.0 ≡ own) × IsOver wave total
RefusesGate wave own total (NoMemory _) = ⊤
