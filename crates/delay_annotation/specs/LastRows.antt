-- What is kept of the rows so far: of each of the four forms of a row the last one, with its number (this project's own).
use Rattle.std.specs.Prelude.{◌≡◌, ⊤, ℕ, ◌+◌, ◌<◌, ◌≤◌, ◌==◌, ◌&&◌, Bool, true, false, nat_lt, if◌then◌else◌, List, [], ◌∷◌, ◌++◌, length, All, slice_index_or}
use Rattle.pd_base.specs.declared.ids.PinRef.{PinRef}
use Rattle.netlist.specs.Circuit.{Circuit, gate_count}
use Rattle.netlist.specs.Pins.{IsPin, pin_place_in, pin_total}
use Rattle.netlist.specs.declared.limits.TheConstants.{MOST_FAN_IN}
use Rattle.delay_annotation.specs.declared.delays.TheConstants.{MOST_DELAY}
use Rattle.delay_annotation.specs.declared.setting.EdgeDelays.{EdgeDelays}
use Rattle.delay_annotation.specs.declared.setting.Pins.{Pins}
use Rattle.delay_annotation.specs.declared.setting.Pins.TheVariants as pins
use Rattle.delay_annotation.specs.declared.setting.Setting.{Setting}
use Rattle.delay_annotation.specs.DelayFile.{unit_delays}
use Rattle.delay_annotation.specs.declared.last.KeptRow.{KeptRow}
use Rattle.delay_annotation.specs.declared.last.LastRows.{LastRows}

-- what is kept where there was no row
abbrev pub no_row_yet : KeptRow
no_row_yet = record { row = 0; delays = unit_delays }

-- the number of the first row behind the titles
abbrev pub first_number : ℕ
first_number = 2

-- what is read past the last setting
abbrev pub no_setting : Setting
no_setting = record { pins = pins.All; delays = unit_delays }

-- the setting at this place among those behind the titles
abbrev pub setting_in : List Setting → ℕ → Setting
setting_in settings place = slice_index_or settings place no_setting

-- from this place on no setting passes the test
abbrev pub NonePassesFrom : (Pins → Bool) → List Setting → ℕ → Type 0
NonePassesFrom test settings place =
    (other : ℕ) → place ≤ other → other < length settings → test (setting_in settings other).pins ≡ false

-- what is kept of the last of these settings that passes a test: the number of its row, and its delays
pub data IsLastRow (test : Pins → Bool) (settings : List Setting) (kept : KeptRow) : Type 0 where
  none_passes : kept ≡ no_row_yet → NonePassesFrom test settings 0 → IsLastRow test settings kept
  last_passes : (place : ℕ) → place < length settings → test (setting_in settings place).pins ≡ true
      → NonePassesFrom test settings (place + 1)
      → kept ≡ record { row = first_number + place; delays = (setting_in settings place).delays }
      → IsLastRow test settings kept

-- the form `*,*`
abbrev pub is_all : Pins → Bool
is_all pins.All = true
is_all (pins.OfGate gate) = false
is_all (pins.Numbered pin) = false
is_all (pins.One pin) = false

-- the form `GATE,*` of this gate
abbrev pub is_of_gate : ℕ → Pins → Bool
is_of_gate gate pins.All = false
is_of_gate gate (pins.OfGate own) = gate == own.0
is_of_gate gate (pins.Numbered pin) = false
is_of_gate gate (pins.One pin) = false

-- the form `*,PIN` of this number
abbrev pub is_numbered : ℕ → Pins → Bool
is_numbered number pins.All = false
is_numbered number (pins.OfGate gate) = false
is_numbered number (pins.Numbered own) = number == own
is_numbered number (pins.One pin) = false

-- the form `GATE,PIN` of this pin
abbrev pub is_one : PinRef → Pins → Bool
is_one pin pins.All = false
is_one pin (pins.OfGate gate) = false
is_one pin (pins.Numbered number) = false
is_one pin (pins.One own) = (pin.gate.0 == own.gate.0) && (pin.pin == own.pin)

-- neither delay is over the greatest
abbrev pub AreWithin : EdgeDelays → Type 0
AreWithin delays = (delays.rise ≤ MOST_DELAY) × (delays.fall ≤ MOST_DELAY)

-- there is a place for each row that a circuit accepts, and no delay is over the greatest
pub record HasRoomForRows (c : Circuit) (kept : LastRows) : Type 0 where
  pub each_gate : length kept.gates.items ≡ gate_count c
  pub each_number : length kept.numbers.items ≡ MOST_FAN_IN
  pub each_pin : length kept.pins.items ≡ pin_total c
  pub all_bounded : AreWithin kept.all.delays
  pub gates_bounded : All (λ entry. AreWithin entry.delays) kept.gates.items
  pub numbers_bounded : All (λ entry. AreWithin entry.delays) kept.numbers.items
  pub pins_bounded : All (λ entry. AreWithin entry.delays) kept.pins.items

-- of these settings the last of each form is kept
pub record KeepsLast (c : Circuit) (kept : LastRows) (settings : List Setting) : Type 0 where
  pub all : IsLastRow is_all settings kept.all
  pub gates : (gate : ℕ) → gate < gate_count c → IsLastRow (is_of_gate gate) settings (slice_index_or kept.gates.items gate no_row_yet)
  pub numbers : (pin : ℕ) → pin < MOST_FAN_IN → IsLastRow (is_numbered pin) settings (slice_index_or kept.numbers.items pin no_row_yet)
  pub pins : (pin : PinRef) → IsPin c pin
      → IsLastRow (is_one pin) settings (slice_index_or kept.pins.items (pin_place_in c pin) no_row_yet)

-- the pins that are meant are some of the circuit
abbrev pub AreOfCircuit : Circuit → Pins → Type 0
AreOfCircuit c pins.All = ⊤
AreOfCircuit c (pins.OfGate gate) = gate.0 < gate_count c
AreOfCircuit c (pins.Numbered pin) = pin < MOST_FAN_IN
AreOfCircuit c (pins.One pin) = IsPin c pin

-- the setting is kept with this number, where it is that of the next row
abbrev pub TakesSetting : Circuit → ℕ → Setting → LastRows → LastRows → Type 0
TakesSetting c number setting old new =
    (settings : List Setting) → number ≡ first_number + length settings → KeepsLast c old settings
    → KeepsLast c new (settings ++ setting ∷ [])

-- of two rows the later one
abbrev pub later : KeptRow → KeptRow → KeptRow
later a b = if nat_lt a.row b.row then b else a

-- the last of the rows for a pin, of whatever form
abbrev pub last_for : Circuit → LastRows → PinRef → KeptRow
last_for c kept pin =
    later (later kept.all (slice_index_or kept.gates.items pin.gate.0 no_row_yet))
    (later (slice_index_or kept.numbers.items pin.pin no_row_yet)
    (slice_index_or kept.pins.items (pin_place_in c pin) no_row_yet))
