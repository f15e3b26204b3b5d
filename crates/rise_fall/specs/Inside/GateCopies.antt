-- What the pins of a gate see of the waves of their lines, by a rise and a fall delay for each (this project's own).
use Rattle.std.specs.Prelude.{◌≡◌, ℕ, ◌<◌, true, false, List, length, slice_index_or}
use Rattle.pd_base.specs.declared.ids.PinRef.{PinRef}
use Rattle.netlist.specs.Circuit.{Circuit, pins_at}
use Rattle.netlist.specs.Waves.{Wave}
use Rattle.rise_fall.specs.Waves.{RiseFallDelays, rise_fall_copy}
use Rattle.delay_replay.specs.Changes.{Changes, AreChangesOf}
use Rattle.delay_replay.specs.GateWaves.{line_wave}
use Rattle.delay_replay.specs.LineWaves.{kept_wave}
use Rattle.delay_replay.specs.PinChanges.{copy_at}

-- a pin of a gate
abbrev pub pin_ref : ℕ → ℕ → PinRef
pin_ref gate pin = record { gate = record { 0 = gate }; pin = pin }

-- the line that a pin of a gate reads
abbrev pub line_at : Circuit → ℕ → ℕ → ℕ
line_at c gate pin = (slice_index_or (pins_at c gate) pin (record { 0 = 0 })).0

-- the wave of a line as a pin of a gate sees it
abbrev pub seen_wave : RiseFallDelays → Circuit → ℕ → ℕ → List Changes → Wave
seen_wave delays c gate pin waves = rise_fall_copy delays (pin_ref gate pin) (line_wave waves (line_at c gate pin))

-- the first pins of a gate, so many of them, see these waves
pub record AreSeen (delays : RiseFallDelays) (c : Circuit) (gate count : ℕ) (waves copies : List Changes) : Type 0 where
  pub one_each : length copies ≡ count
  pub each : (pin : ℕ) → pin < count → AreChangesOf (seen_wave delays c gate pin waves) (copy_at copies pin)

-- each of the first pins of a gate, so many of them, whose line changes takes as long to show a rise as to show a fall
pub record HaveOneDelay (delays : RiseFallDelays) (c : Circuit) (gate count : ℕ) (waves : List Changes) : Type 0 where
  pub each : (pin : ℕ) → pin < count → 0 < length (kept_wave waves (line_at c gate pin)).times
      → delays (pin_ref gate pin) true ≡ delays (pin_ref gate pin) false
