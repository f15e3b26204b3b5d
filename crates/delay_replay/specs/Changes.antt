-- Waves as they are kept: the value before all changes, and the times at which the value changes (this project's own).
use Rattle.std.specs.Prelude.{◌≡◌, ◌≢◌, ℕ, ◌<◌, ℤ, pos, ◌-ℤ◌, ◌<ℤ◌, ◌≤ℤ◌, int_le, Bool, List, ◌∷◌, length, map, All, AllPairs}
use Rattle.netlist.specs.Values.{parity}
use Rattle.netlist.specs.Waves.{Wave}
use Rattle.delay_replay.specs.declared.wave.TheConstants.{LATEST_CHANGE}

-- each time is later than those before it
abbrev pub AreTimesRising : List ℤ → Type 0
AreTimesRising times = AllPairs (λ earlier later. earlier <ℤ later) times

-- the value before all changes, and the times of the changes
pub record Changes : Type 0 where
  pub before : Bool
  pub times : List ℤ

-- the value at a time: the one before all changes, turned once for each change at or before the time
abbrev pub wave_at : Changes → Wave
wave_at changes time = parity (changes.before ∷ map (λ change. int_le change time) changes.times)

-- these are the changes of a wave: their times rise, and they make its value at each time
pub record AreChangesOf (wave : Wave) (changes : Changes) : Type 0 where
  pub rising : AreTimesRising changes.times
  pub shows : (time : ℤ) → wave_at changes time ≡ wave time

-- the wave has another value right before this time
abbrev pub ChangesAt : Wave → ℤ → Type 0
ChangesAt wave time = wave (time -ℤ pos 1) ≢ wave time

-- the wave changes at more times than this
pub record ChangesOver (wave : Wave) (most : ℕ) : Type 0 where
  pub times : List ℤ
  pub rising : AreTimesRising times
  pub changes : All (ChangesAt wave) times
  pub more : most < length times

-- no change is so late that times behind it could leave the range that the program counts in
abbrev pub IsBounded : Changes → Type 0
IsBounded changes = All (λ change. change ≤ℤ LATEST_CHANGE) changes.times
