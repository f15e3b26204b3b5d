-- What the pins of a gate see of the waves of their lines, as lists of changes (the merge of a gate knows nothing else).
use Rattle.std.specs.Prelude.{◌≡◌, ℕ, ◌^◌, ◌<◌, ◌≤◌, ℤ, pos, ◌+ℤ◌, List, [], ◌∷◌, Option, None, Some, length, map, slice_index_or, All}
use Rattle.pd_base.specs.declared.ids.LineId.{LineId}
use Rattle.netlist.specs.declared.kind.GateKind.{GateKind}
use Rattle.netlist.specs.declared.limits.TheConstants.{MOST_FAN_IN}
use Rattle.netlist.specs.Values.{gate_value}
use Rattle.netlist.specs.Waves.{Wave}
use Rattle.delay_replay.specs.Changes.{Changes, AreTimesRising, IsBounded}
use Rattle.delay_replay.specs.LineWaves.{kept_wave}
use Rattle.delay_replay.specs.PinChanges.{copy_values}

-- the time of the change at this place, if there is one, of times that rise
abbrev pub IsTimeAt : Changes → ℕ → Option ℤ → Type 0
IsTimeAt changes place None = length changes.times ≤ place
IsTimeAt changes place (Some time) =
    (place < length changes.times) × (length changes.times < 2 ^ 64) × (time ≡ slice_index_or changes.times place (pos 0)) × AreTimesRising changes.times

-- what a gate makes of what its pins see
abbrev pub merged_wave : GateKind → List Changes → Wave
merged_wave kind copies time = gate_value kind (copy_values copies time)

-- changes later by a delay
abbrev pub later_by : ℕ → Changes → Changes
later_by delay changes = record { before = changes.before; times = map (λ change. change +ℤ pos delay) changes.times }

-- what pins with these delays see of these waves, one each
abbrev pub later_copies : List ℕ → List Changes → List Changes
later_copies [] seen = []
later_copies (delay ∷ delays) [] = []
later_copies (delay ∷ delays) (changes ∷ others) = later_by delay changes ∷ later_copies delays others

-- what pins with these delays see that read these lines, where these are the changes of all lines
abbrev pub copies_of_lines : List ℕ → List LineId → List Changes → List Changes
copies_of_lines delays lines waves = later_copies delays (map (λ line. kept_wave waves line.0) lines)

-- there is a delay for each of the lines, no more of them than a gate has pins, and a wave for each that is soon enough to be copied
pub record CanRead (delays : List ℕ) (lines : List LineId) (waves : List Changes) : Type 0 where
  pub one_each : length delays ≡ length lines
  pub few : length lines ≤ MOST_FAN_IN
  pub have_waves : All (λ line. line.0 < length waves) lines
  pub bounded : All IsBounded waves
