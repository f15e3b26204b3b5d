-- Each pin has the delay of the last row for it, that of a rise or that of a fall, gate by gate (this project's own).
use Rattle.std.specs.Prelude.{◌≡◌, ◌≢◌, ℕ, ◌<◌, List, length}
use Rattle.pd_base.specs.declared.fault.Direction.{Direction}
use Rattle.pd_base.specs.declared.ids.PinRef.{PinRef}
use Rattle.netlist.specs.Circuit.{Circuit, pins_at}
use Rattle.netlist.specs.Pins.{IsPin}
use Rattle.delay_annotation.specs.Annotation.{delays_of}
use Rattle.delay_annotation.specs.declared.setting.Setting.{Setting}
use Rattle.delay_annotation.specs.DelayFile.{delay_on, delays_by}
use Rattle.delay_annotation.specs.LastRows.{KeepsLast, last_for}
use Rattle.delay_annotation.specs.declared.last.LastRows.{LastRows}

-- the pins of the gates before this one have the delays of the last rows for them
abbrev pub GatesHaveLastDelays : Circuit → LastRows → Direction → ℕ → List ℕ → Type 0
GatesHaveLastDelays c kept direction gate delays =
    (pin : PinRef) → IsPin c pin → pin.gate.0 < gate → delays_of c delays pin ≡ delay_on direction (last_for c kept pin).delays

-- the first pins of a gate have those delays now, and each pin of another gate has the delay that it had
pub record SettlesPins (c : Circuit) (kept : LastRows) (direction : Direction) (gate count : ℕ) (old new : List ℕ) : Type 0 where
  pub own : (pin : PinRef) → IsPin c pin → pin.gate.0 ≡ gate → pin.pin < count → delays_of c new pin ≡ delay_on direction (last_for c kept pin).delays
  pub others : (pin : PinRef) → IsPin c pin → pin.gate.0 ≢ gate → delays_of c new pin ≡ delays_of c old pin

-- all pins of a gate do
abbrev pub SettlesGate : Circuit → LastRows → Direction → ℕ → List ℕ → List ℕ → Type 0
SettlesGate c kept direction gate old new = SettlesPins c kept direction gate (length (pins_at c gate)) old new

-- each pin of the circuit has the delay that the settings give it of which the last are kept
abbrev pub HasLastDelays : Circuit → LastRows → Direction → List ℕ → Type 0
HasLastDelays c kept direction delays =
    (settings : List Setting) → KeepsLast c kept settings → (pin : PinRef) → IsPin c pin
    → delays_of c delays pin ≡ delay_on direction (delays_by settings pin)
