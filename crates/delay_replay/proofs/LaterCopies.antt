-- What the pins of a gate see where each has one delay is what the gate's wave is made of.
use Rattle.std.proofs.Common.{◌≡◌, ℕ, zero, suc, ◌+◌, ◌<◌, ℤ, pos, ◌-ℤ◌, Bool, List, [], ◌∷◌, map, length, get_or, refl, ap, ap₂, sym, add-zero, zero-add, ◌≤◌, ◌∙◌, arith}
use Rattle.std.proofs.lemmas.List.{get_or_default, get_or-map, length-map}
use Rattle.pd_base.specs.declared.ids.LineId.{LineId}
use Rattle.netlist.specs.declared.kind.GateKind.{GateKind}
use Rattle.netlist.specs.declared.kind.GateKind.TheVariants.{And, Nand, Or, Nor, Xor, Xnor, Not, Buff}
use Rattle.netlist.specs.declared.limits.TheConstants.{MOST_FAN_IN}
use Rattle.netlist.specs.Lawful.{IsFanIn}
use Rattle.netlist.specs.Circuit.{Circuit, kind_at, pins_at}
use Rattle.netlist.specs.Values.{gate_value}
use Rattle.netlist.specs.Waves.{Delays, Wave, delay_copy, pin_values}
use Rattle.delay_annotation.specs.Annotation.{ArePinDelays, delays_of}
use Rattle.delay_replay.specs.Changes.{Changes, wave_at}
use Rattle.delay_replay.specs.declared.gate.WaveFault.{WaveFault}
use Rattle.delay_replay.specs.declared.gate.WaveFault.TheVariants.{TooMany, NoMemory}
use Rattle.delay_replay.specs.declared.gate.TheConstants.{MOST_CHANGES}
use Rattle.delay_replay.specs.GateWaves.{RefusesWave, delayed_gate_wave, line_wave}
use Rattle.delay_replay.specs.LineWaves.{kept_wave, no_changes}
use Rattle.delay_replay.specs.PinChanges.{copy_at, copy_values}
use Rattle.delay_replay.specs.PinCopies.{CanRead, copies_of_lines, later_by, later_copies, merged_wave}
use Rattle.delay_replay.proofs.ChangeTimes.{over_same}
use Rattle.delay_replay.proofs.Turning.{at_moved}

-- there is one for each pin
length-later_copies : (delays : List ℕ) (seen : List Changes) → length delays ≡ length seen
    → length (later_copies delays seen) ≡ length seen
length-later_copies [] [] same = refl
length-later_copies [] (changes ∷ others) same = absurd (omega arith)
length-later_copies (delay ∷ delays) [] same = absurd (omega arith)
length-later_copies (delay ∷ delays) (changes ∷ others) same = ap suc (length-later_copies delays others (omega arith))

-- each by the delay of its pin
copy_at_later : (delays : List ℕ) (seen : List Changes) (pin : ℕ) → pin < length delays → pin < length seen
    → copy_at (later_copies delays seen) pin ≡ later_by (get_or delays pin 0) (get_or seen pin no_changes)
copy_at_later [] seen pin within inside = absurd (omega arith)
copy_at_later (delay ∷ delays) [] pin within inside = absurd (omega arith)
copy_at_later (delay ∷ delays) (changes ∷ others) zero within inside = refl
copy_at_later (delay ∷ delays) (changes ∷ others) (suc pin) within inside =
    copy_at_later delays others pin (omega arith) (omega arith)

module _ (delays : List ℕ) (lines : List LineId) (waves : List Changes) where
  -- what the lines have
  abbrev seen : List Changes
  seen = map (λ line. kept_wave waves line.0) lines

  module _ (one_each : length delays ≡ length lines) where
    -- there is one for each line
    pub length-copies : length (copies_of_lines delays lines waves) ≡ length lines
    length-copies =
        let long = length-map lines (λ (line : LineId). kept_wave waves line.0) in
        length-later_copies delays seen (one_each ∙ sym long) ∙ long

    -- each is its line's wave, where this is the one that is kept, later by its delay
    pub copy_of_read : (pin : ℕ) → pin < length lines → (get_or lines pin (record { 0 = 0 })).0 < length waves
        → (wave : Changes) → wave ≡ get_or waves (get_or lines pin (record { 0 = 0 })).0 wave
        → copy_at (copies_of_lines delays lines waves) pin ≡ later_by (get_or delays pin 0) wave
    copy_of_read pin within there wave is =
        let line = (get_or lines pin (record { 0 = 0 })).0 in
        copy_at_later delays seen pin (omega arith)
        (omega (arith, length-map lines (λ (line : LineId). kept_wave waves line.0)))
        ∙ ap (later_by (get_or delays pin 0))
        (get_or-map (λ (line : LineId). kept_wave waves line.0) lines pin (record { 0 = 0 }) no_changes within
        ∙ get_or_default waves line no_changes wave there ∙ sym is)

-- a pin that there is a copy for reads one of the lines, which has a wave
module _ (delays : List ℕ) (lines : List LineId) (waves : List Changes) (can : CanRead delays lines waves) where
  pub pin_inside : (pin : ℕ) → pin < length (copies_of_lines delays lines waves) → pin < length lines
  pin_inside pin within = omega (arith, length-copies delays lines waves can.one_each)

  pub line_inside : (pin : ℕ) → pin < length (copies_of_lines delays lines waves) → (get_or lines pin (record { 0 = 0 })).0 < length waves
  line_inside pin within = can.have_waves pin (record { 0 = 0 }) (pin_inside pin within)

-- What pins show that have the delays of a gate's pins from this one on.
values_from : (all : Delays) (gate first : ℕ) (delays : List ℕ) (lines : List LineId) (waves : List Changes)
    → length delays ≡ length lines
    → ((pin : ℕ) → pin < length lines → get_or delays pin 0 ≡ all (record { gate = record { 0 = gate }; pin = first + pin }))
    → (time : ℤ)
    → copy_values (later_copies delays (map (λ line. kept_wave waves line.0) lines)) time
    ≡ pin_values (delay_copy all) gate first (map (λ line. line_wave waves line.0) lines) time
values_from all gate first [] [] waves same each time = refl
values_from all gate first [] (line ∷ lines) waves same each time = absurd (omega arith)
values_from all gate first (delay ∷ delays) [] waves same each time = absurd (omega arith)
values_from all gate first (delay ∷ delays) (line ∷ lines) waves same each time =
    ap₂ (λ (value : Bool) values. value ∷ values)
    (at_moved (kept_wave waves line.0).before (kept_wave waves line.0).times delay time
    ∙ ap (λ late. wave_at (kept_wave waves line.0) (time -ℤ pos late)) (each zero (omega arith))
    ∙ ap (λ pin. wave_at (kept_wave waves line.0) (time -ℤ pos (all (record { gate = record { 0 = gate }; pin = pin })))) (add-zero first))
    (values_from all gate (first + 1) delays lines waves (omega arith)
    (λ pin within. each (suc pin) (omega arith) ∙ ap (λ own. all (record { gate = record { 0 = gate }; pin = own })) (further pin)) time)
  where
    further : (n : ℕ) → first + suc n ≡ first + 1 + n
    further n = omega arith

-- What the pins of a gate see makes the gate's wave.
pub merged_is_delayed : (c : Circuit) (kept : List ℕ) (gate : ℕ) (delays : List ℕ) (waves : List Changes)
    → ArePinDelays c kept gate delays → (time : ℤ)
    → merged_wave (kind_at c gate) (copies_of_lines delays (pins_at c gate) waves) time ≡ delayed_gate_wave c kept gate waves time
merged_is_delayed c kept gate delays waves are time =
    ap (gate_value (kind_at c gate))
    (values_from (delays_of c kept) gate 0 delays (pins_at c gate) waves are.one_each
    (λ pin within. are.each pin within ∙ ap (λ n. delays_of c kept (record { gate = record { 0 = gate }; pin = n })) (sym (zero-add pin))) time)

-- no gate has more pins than may be
pub few_by_fan_in : (kind : GateKind) (pins : ℕ) → IsFanIn kind pins → pins ≤ MOST_FAN_IN
few_by_fan_in And pins is = is.few
few_by_fan_in Nand pins is = is.few
few_by_fan_in Or pins is = is.few
few_by_fan_in Nor pins is = is.few
few_by_fan_in Xor pins is = is.few
few_by_fan_in Xnor pins is = is.few
few_by_fan_in Not pins is = omega arith
few_by_fan_in Buff pins is = omega arith

-- a wave that is the same at each time is refused likewise
pub refuses_same : (wave other : Wave) → ((time : ℤ) → wave time ≡ other time) → (fault : WaveFault) → RefusesWave wave fault → RefusesWave other fault
refuses_same wave other same TooMany refuses = over_same wave other MOST_CHANGES same refuses
refuses_same wave other same (NoMemory _) refuses = tt
