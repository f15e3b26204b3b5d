-- The wave of one gate out of the waves of the lines that it reads (transport delay at each pin).
use Rattle.std.specs.Prelude.{⊤, ℕ, false, List, [], map, slice_index_or}
use Rattle.netlist.specs.Circuit.{Circuit, kind_at, pins_at}
use Rattle.netlist.specs.Values.{gate_value}
use Rattle.netlist.specs.Waves.{Wave, PinCopy, delay_copy, pin_values}
use Rattle.delay_annotation.specs.Annotation.{delays_of}
use Rattle.delay_replay.specs.declared.gate.WaveFault.{WaveFault}
use Rattle.delay_replay.specs.declared.gate.WaveFault.TheVariants.{TooMany, NoMemory}
use Rattle.delay_replay.specs.declared.gate.TheConstants.{MOST_CHANGES}
use Rattle.delay_replay.specs.Changes.{Changes, ChangesOver, wave_at}

-- what a gate makes of the waves of all lines: at each time its function of what its pins show then
abbrev pub gate_wave : PinCopy → Circuit → ℕ → (ℕ → Wave) → Wave
gate_wave copy c gate wave time =
    gate_value (kind_at c gate) (pin_values copy gate 0 (map (λ line. wave line.0) (pins_at c gate)) time)

-- the wave of a line, where these are the changes of all lines, by line number
abbrev pub line_wave : List Changes → ℕ → Wave
line_wave waves line = wave_at (slice_index_or waves line (record { before = false; times = [] }))

-- what a gate makes of the waves of all lines that have these changes, where its pins have these delays
abbrev pub delayed_gate_wave : Circuit → List ℕ → ℕ → List Changes → Wave
delayed_gate_wave c kept gate waves = gate_wave (delay_copy (delays_of c kept)) c gate (line_wave waves)

-- a wave is refused only where it has too many changes, or for want of memory
abbrev pub RefusesWave : Wave → WaveFault → Type 0
RefusesWave wave TooMany = ChangesOver wave MOST_CHANGES
RefusesWave wave (NoMemory _) = ⊤
