-- Pins that delay a rise and a fall of their line differently: what such a pin shows, the waves of a circuit of such pins, and
-- how long its paths are (this project's own; a pulse of the value that takes longer to show is swallowed, where it is no longer than
-- the difference of the two delays).
use Rattle.std.specs.Prelude.{◌≢◌, ℕ, suc, ◌+◌, ◌-◌, ℤ, pos, ◌-ℤ◌, ◌<ℤ◌, Bool, true, false, List, [], ◌∷◌, map, nat_le, if◌then◌else◌}
use Rattle.std.specs.List.{range_with_len}
use Rattle.pd_base.specs.declared.ids.PinRef.{PinRef}
use Rattle.pd_base.specs.Pair.{Vectors}
use Rattle.pd_base.specs.Route.{Route}
use Rattle.netlist.specs.Circuit.{Circuit, gate_line}
use Rattle.netlist.specs.Values.{all_true, any_true, value}
use Rattle.netlist.specs.Paths.{end_of}
use Rattle.netlist.specs.Waves.{Wave, PinCopy, wave_under}

-- what each pin takes to show that its line is 1 (`true`: its rise delay) and that it is 0 (its fall delay), in whole delay units
abbrev pub RiseFallDelays : Type 0
RiseFallDelays = PinRef → Bool → ℕ

-- a wave at each time of a window, which goes from so many delay units ago back over so many more
abbrev pub window : Wave → ℤ → ℕ → ℕ → List Bool
window wave time ago more = map (λ back. wave (time -ℤ pos back)) (range_with_len ago (suc more))

-- What a pin with this rise and this fall delay shows of a wave, by the window between the two delays ago: where a rise takes as
-- long as a fall or longer, 1 exactly where the wave was 1 all the time; else 1 exactly where it was 1 at some time.
abbrev pub risen_fallen : ℕ → ℕ → Wave → Wave
risen_fallen rise fall wave time =
    if nat_le fall rise
    then all_true (window wave time fall (rise - fall))
    else any_true (window wave time rise (fall - rise))

-- the copy that a pin with its rise and its fall delay makes
abbrev pub rise_fall_copy : RiseFallDelays → PinCopy
rise_fall_copy delays pin wave = risen_fallen (delays pin true) (delays pin false) wave

-- the wave of a line under a rise and a fall delay for each pin
abbrev pub rise_fall_wave : Circuit → Vectors → RiseFallDelays → ℕ → Wave
rise_fall_wave c pair delays line = wave_under (rise_fall_copy delays) c pair line

-- the sum over steps from a line, under a vector: each step's pin counts with what it takes to show the value of its line
abbrev pub steps_length : RiseFallDelays → Circuit → List Bool → ℕ → List PinRef → ℕ
steps_length delays c vector line [] = 0
steps_length delays c vector line (step ∷ steps) =
    delays step (value c vector line) + steps_length delays c vector (gate_line c step.gate.0) steps

-- the length of a path for the values to which a vector leads
abbrev pub final_length : RiseFallDelays → Circuit → List Bool → Route → ℕ
final_length delays c vector path = steps_length delays c vector path.source.0 path.steps

-- Under every rise and fall delay of each pin, and at every time below the path's length for its final values, what is sampled
-- at its end is not the value to which the second vector leads.
abbrev pub DetectsRiseFall : Circuit → Route → Vectors → Type 0
DetectsRiseFall c path pair =
    (delays : RiseFallDelays) (time : ℤ) → time <ℤ pos (final_length delays c pair.second path)
    → rise_fall_wave c pair delays (end_of c path) time ≢ value c pair.second (end_of c path)
