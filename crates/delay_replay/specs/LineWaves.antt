-- The waves of all lines as they are kept, by line number, and between which values and times each goes (transport delay at
-- each pin, a pair of vectors at the sources).
use Rattle.std.specs.Prelude.{◌≡◌, ℕ, ◌<◌, ℤ, pos, ◌<ℤ◌, ◌≤ℤ◌, Bool, false, List, [], length, slice_index_or, All}
use Rattle.pd_base.specs.Pair.{Vectors}
use Rattle.netlist.specs.Circuit.{Circuit, line_count}
use Rattle.netlist.specs.Values.{value}
use Rattle.netlist.specs.Waves.{Delays, Wave, wave_of}
use Rattle.delay_replay.specs.Changes.{Changes, AreChangesOf, IsBounded, wave_at}
use Rattle.delay_replay.specs.LatestChange.{latest_change}

-- what is read where there is no line
abbrev pub no_changes : Changes
no_changes = record { before = false; times = [] }

-- the wave that is kept of a line
abbrev pub kept_wave : List Changes → ℕ → Changes
kept_wave waves line = slice_index_or waves line no_changes

-- these are the waves of all lines
pub record AreLineWaves (c : Circuit) (wave : ℕ → Wave) (waves : List Changes) : Type 0 where
  pub one_each : length waves ≡ line_count c
  pub each : (line : ℕ) → line < line_count c → AreChangesOf (wave line) (kept_wave waves line)

-- no line has a wave that changes too late to be copied
abbrev pub AreLinesBounded : Circuit → (ℕ → Wave) → Type 0
AreLinesBounded c wave = (line : ℕ) → line < line_count c → (changes : Changes) → AreChangesOf (wave line) changes → IsBounded changes

-- these are the waves of all lines under a pair and a delay assignment
abbrev pub AreWavesOf : Circuit → Vectors → Delays → List Changes → Type 0
AreWavesOf c pair delays = AreLineWaves c (wave_of c pair delays)

-- the wave has this value behind all its changes
abbrev pub EndsAt : Changes → Bool → Type 0
EndsAt changes value = (time : ℤ) → All (λ change. change ≤ℤ time) changes.times → wave_at changes time ≡ value

-- a time from 0 up to a bound
pub record IsTimeWithin (bound : ℕ) (time : ℤ) : Type 0 where
  pub from_zero : pos 0 ≤ℤ time
  pub to_bound : time ≤ℤ pos bound

-- the wave has the first value before time 0, the last one from the bound on, and all its changes between
pub record GoesBetween (first last : Bool) (bound : ℕ) (changes : Changes) : Type 0 where
  pub earliest : changes.before ≡ first
  pub latest : EndsAt changes last
  pub early : (time : ℤ) → time <ℤ pos 0 → wave_at changes time ≡ first
  pub late : (time : ℤ) → pos bound ≤ℤ time → wave_at changes time ≡ last
  pub between : All (IsTimeWithin bound) changes.times

-- each line goes from its value under the first vector to its value under the second
abbrev pub GoBetweenValues : Circuit → Vectors → Delays → List Changes → Type 0
GoBetweenValues c pair delays waves =
    (line : ℕ) → line < line_count c
    → GoesBetween (value c pair.first line) (value c pair.second line) (latest_change c delays line) (kept_wave waves line)
