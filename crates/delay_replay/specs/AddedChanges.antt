-- One change more, at the end of a wave (this project's own).
use Rattle.std.specs.Prelude.{◌≢◌, ◌≡◌, ⊤, ◌≤◌, ℤ, ◌<ℤ◌, ◌≤ℤ◌, Bool, length, All}
use Rattle.delay_replay.specs.declared.gate.WaveFault.{WaveFault}
use Rattle.delay_replay.specs.declared.gate.WaveFault.TheVariants.{TooMany, NoMemory}
use Rattle.delay_replay.specs.declared.gate.TheConstants.{MOST_CHANGES}
use Rattle.delay_replay.specs.Changes.{Changes, AreTimesRising, wave_at}

-- from a time on the wave has this value, and before it the values that it had
pub record IsTurned (old new : Changes) (time : ℤ) (value : Bool) : Type 0 where
  pub rising : AreTimesRising new.times
  pub within : All (λ change. change ≤ℤ time) new.times
  pub until : (other : ℤ) → other <ℤ time → wave_at new other ≡ wave_at old other
  pub from : (other : ℤ) → time ≤ℤ other → wave_at new other ≡ value
  pub few : length old.times ≤ MOST_CHANGES → length new.times ≤ MOST_CHANGES

-- one change more is refused only where there are as many as may be, and the value is another one
abbrev pub RefusesChange : Changes → Bool → WaveFault → Type 0
RefusesChange old value TooMany =
    (MOST_CHANGES ≤ length old.times) × ((time : ℤ) → All (λ change. change ≤ℤ time) old.times → wave_at old time ≢ value)
RefusesChange old value (NoMemory _) = ⊤
