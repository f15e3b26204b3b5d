-- The wave of one gate out of the waves of all lines, where each pin has a rise and a fall delay.
use Rattle.std.specs.Prelude.{ℕ, List}
use Rattle.netlist.specs.Circuit.{Circuit}
use Rattle.netlist.specs.Waves.{Wave}
use Rattle.rise_fall.specs.Waves.{rise_fall_copy}
use Rattle.delay_annotation.specs.RiseFall.{RisesAndFalls, rise_fall_of}
use Rattle.delay_replay.specs.Changes.{Changes}
use Rattle.delay_replay.specs.GateWaves.{gate_wave, line_wave}

-- what a gate makes of the waves of all lines, where its pins have these delays
abbrev pub rise_fall_gate_wave : Circuit → RisesAndFalls → ℕ → List Changes → Wave
rise_fall_gate_wave c kept gate waves = gate_wave (rise_fall_copy (rise_fall_of c kept)) c gate (line_wave waves)
