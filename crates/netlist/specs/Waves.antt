-- What each line does over time under a pair of vectors (transport delay at each pin).
use Rattle.std.specs.Prelude.{ℕ, ◌+◌, ℤ, pos, ◌-ℤ◌, int_lt, Bool, List, [], ◌∷◌, if◌then◌else◌}
use Rattle.pd_base.specs.declared.ids.PinRef.{PinRef}
use Rattle.pd_base.specs.Pair.{Vectors}
use Rattle.netlist.specs.Circuit.{Circuit, kind_at}
use Rattle.netlist.specs.Evaluation.{value_of}
use Rattle.netlist.specs.Values.{bit_of, gate_value}

-- a delay of 0 or more for each pin, in whole delay units
abbrev pub Delays : Type 0
Delays = PinRef → ℕ

-- a value at each whole number of time, before and after 0
abbrev pub Wave : Type 0
Wave = ℤ → Bool

-- what each pin makes of the wave of its line
abbrev pub PinCopy : Type 0
PinCopy = PinRef → Wave → Wave

-- a source has its bit of the first vector before time 0, and its bit of the second from 0 on
abbrev pub source_wave : Vectors → ℕ → Wave
source_wave pair source time = if int_lt time (pos 0) then bit_of pair.first source else bit_of pair.second source

-- the values at a gate's pins at a time, from this pin on, out of the waves of their lines
abbrev pub pin_values : PinCopy → ℕ → ℕ → List Wave → ℤ → List Bool
pin_values copy gate pin [] time = []
pin_values copy gate pin (wave ∷ waves) time =
    copy (record { gate = record { 0 = gate }; pin = pin }) wave time ∷ pin_values copy gate (pin + 1) waves time

-- the wave of a line, where the pins copy the waves of their lines so
abbrev pub wave_under : PinCopy → Circuit → Vectors → ℕ → Wave
wave_under copy c pair line =
    value_of c (source_wave pair) (λ gate waves time. gate_value (kind_at c gate) (pin_values copy gate 0 waves time)) line

-- the copy that a pin with a delay makes: it sees its line's wave later by the delay
abbrev pub delay_copy : Delays → PinCopy
delay_copy delays pin wave time = wave (time -ℤ pos (delays pin))

-- the wave of a line under a delay assignment
abbrev pub wave_of : Circuit → Vectors → Delays → ℕ → Wave
wave_of c pair delays line = wave_under (delay_copy delays) c pair line
