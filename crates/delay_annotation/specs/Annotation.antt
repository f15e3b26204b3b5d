-- The delays of the pins of a circuit, in one list: gate by gate, and at each gate from pin 0 on (this project's own).
use Rattle.std.specs.Prelude.{◌≡◌, ◌≢◌, ℕ, ◌<◌, ◌≤◌, List, length, slice_index_or, All}
use Rattle.pd_base.specs.declared.ids.PinRef.{PinRef}
use Rattle.netlist.specs.Circuit.{Circuit, pins_at}
use Rattle.netlist.specs.Pins.{IsPin, pin_place_in, pin_total}
use Rattle.netlist.specs.Waves.{Delays}
use Rattle.delay_annotation.specs.declared.delays.TheConstants.{MOST_DELAY}

-- the delay of a pin of the circuit, by its place in the list
abbrev pub delays_of : Circuit → List ℕ → Delays
delays_of c kept pin = slice_index_or kept (pin_place_in c pin) 0

-- there is one delay for each pin of the circuit, and none is over the greatest
pub record Fits (c : Circuit) (kept : List ℕ) : Type 0 where
  pub one_each : length kept ≡ pin_total c
  pub bounded : All (λ delay. delay ≤ MOST_DELAY) kept

-- these are the delays of the pins of a gate, from pin 0 on
pub record ArePinDelays (c : Circuit) (kept : List ℕ) (gate : ℕ) (delays : List ℕ) : Type 0 where
  pub one_each : length delays ≡ length (pins_at c gate)
  pub each : (pin : ℕ) → pin < length (pins_at c gate)
      → slice_index_or delays pin 0 ≡ delays_of c kept (record { gate = record { 0 = gate }; pin = pin })

-- this pin has this delay now, and each other pin of the circuit has the delay that it had
pub record SetsDelay (c : Circuit) (old new : List ℕ) (pin : PinRef) (delay : ℕ) : Type 0 where
  pub changed : delays_of c new pin ≡ delay
  pub others : (other : PinRef) → IsPin c other → other ≢ pin → delays_of c new other ≡ delays_of c old other
