-- Pins that agree in how they copy their lines give the lines of a circuit the same waves, and so the lines change as often.
use Rattle.std.proofs.Common.{◌≡◌, ⊎_elim, ℕ, zero, suc, ◌+◌, ◌-◌, ◌<◌, ◌≤◌, ℤ, pos, ◌-ℤ◌, Bool, List, [], ◌∷◌, map, length, get_or, nat_lt, if◌then◌else◌, refl, ap, ap₂, subst, ◌∙◌, arith}
use Rattle.std.proofs.lemmas.Bool.{cases_lt}
use Rattle.std.proofs.lemmas.List.{get_or_past, length-map}
use Rattle.std.proofs.lemmas.List.Elements.{All-weaker}
use Rattle.std.proofs.lemmas.Option.{slice_get-get_or}
use Rattle.pd_base.specs.declared.ids.LineId.{LineId}
use Rattle.pd_base.specs.declared.ids.PinRef.{PinRef}
use Rattle.pd_base.specs.declared.test.Test.{Test}
use Rattle.pd_base.specs.Pair.{Vectors}
use Rattle.netlist.specs.Circuit.{Circuit, Gate, no_gate, source_count, gate_count, kind_at, pins_at}
use Rattle.netlist.specs.Evaluation.{value_within}
use Rattle.netlist.specs.Pins.{IsPinOn}
use Rattle.netlist.specs.Values.{gate_value}
use Rattle.netlist.specs.Waves.{Delays, PinCopy, Wave, delay_copy, pin_values, source_wave, wave_under}
use Rattle.delay_replay.specs.ChangeLimits.{HasFewOf, NoneTooMuch, ranked_lines}
use Rattle.commands.specs.TestChanges.{HaveFewChanges, HaveFewOf}

-- a pin of a gate, by numbers
abbrev pin_of : ℕ → ℕ → PinRef
pin_of gate pin = record { gate = record { 0 = gate }; pin = pin }

-- what a gate makes of waves at a time
abbrev gate_step : Circuit → PinCopy → ℕ → List Wave → Wave
gate_step c copies gate waves time = gate_value (kind_at c gate) (pin_values copies gate 0 waves time)

-- two models of pins agree at each pin that reads a line
abbrev pub PinsAgree : {A : Type 0} → Circuit → (PinRef → A) → (PinRef → A) → Type 0
PinsAgree c a b = (pin : PinRef) (line : ℕ) → IsPinOn c pin line → a pin ≡ b pin

module _ (c : Circuit) (a b : PinCopy) (agree : PinsAgree c a b) where
  -- a pin that a gate has reads a line
  at_pin : (gate pin : ℕ) → pin < length (pins_at c gate) → a (pin_of gate pin) ≡ b (pin_of gate pin)
  at_pin gate pin inside =
      ⊎_elim (λ within. agree (pin_of gate pin) (get_or (pins_at c gate) pin none).0 (record {
        in_circuit = within;
        reads = slice_get-get_or (pins_at c gate) pin none inside;
      })) (λ past. absurd (no_pin past)) (cases_lt gate (gate_count c))
    where
      none : LineId
      none = record { 0 = 0 }

      no_pin : gate_count c ≤ gate → ⊥
      no_pin past =
          let empty = ap (λ (g : Gate). length g.pins) (get_or_past c.gates gate no_gate past) in omega (arith, empty, inside)

  -- pins that agree see the same
  pins_see : (gate pin : ℕ) (waves : List Wave)
      → ((p : ℕ) → pin ≤ p → p < pin + length waves → a (pin_of gate p) ≡ b (pin_of gate p)) → (time : ℤ)
      → pin_values a gate pin waves time ≡ pin_values b gate pin waves time
  pins_see gate pin [] each time = refl
  pins_see gate pin (wave ∷ waves) each time =
      ap₂ (λ (value : Bool) values. value ∷ values)
      (ap (λ (copy : Wave → Wave). copy wave time) (each pin (omega arith) (omega arith)))
      (pins_see gate (pin + 1) waves (λ p from below. each p (omega arith) (omega arith)) time)

  -- so a gate makes the same of the waves of its pins' lines
  steps_agree : (gate : ℕ) (waves : List Wave) → length waves ≡ length (pins_at c gate) → (time : ℤ)
      → gate_step c a gate waves time ≡ gate_step c b gate waves time
  steps_agree gate waves long time =
      ap (gate_value (kind_at c gate)) (pins_see gate 0 waves (λ p from below. at_pin gate p (omega (arith, long))) time)

  -- the waves agree, however far one looks back
  within_agree : (pair : Vectors) (gates line : ℕ)
      → value_within c (source_wave pair) (gate_step c a) gates line ≡ value_within c (source_wave pair) (gate_step c b) gates line
  within_agree pair zero line = refl
  within_agree pair (suc gates) line =
      let gate = line - source_count c in
      let before = λ (l : ℕ). value_within c (source_wave pair) (gate_step c a) gates l in
      let waves : List Wave = map (λ (pin : LineId). before pin.0) (pins_at c gate) in
      let long = length-map (pins_at c gate) (λ (pin : LineId). before pin.0) in
      let one : gate_step c a gate waves ≡ gate_step c b gate waves = λ i time. steps_agree gate waves long time i in
      let other = ap (λ (wave : ℕ → Wave). gate_step c b gate (map (λ (pin : LineId). wave pin.0) (pins_at c gate)))
      (λ i l. within_agree pair gates l i) in
      ap (λ wave. if nat_lt line (source_count c) then source_wave pair line else wave) (one ∙ other)

  -- each line has the same wave
  pub waves_agree : (pair : Vectors) → wave_under a c pair ≡ wave_under b c pair
  waves_agree pair = λ i line. within_agree pair (gate_count c) line i

  -- so the lines change as often
  few_agree : (pair : Vectors) → HasFewOf c (wave_under a c pair) → HasFewOf c (wave_under b c pair)
  few_agree pair few = record {
    order = few.order;
    ranked = few.ranked;
    none = subst (λ (wave : ℕ → Wave). NoneTooMuch wave (ranked_lines c few.order)) (waves_agree pair) few.none;
  }

  -- under each of these pairs
  pub all_few_agree : (tests : List Test) → HaveFewOf c (wave_under a c) tests → HaveFewOf c (wave_under b c) tests
  all_few_agree tests few =
      All-weaker (λ (test : Test). HasFewOf c (wave_under a c test.pair)) (λ (test : Test). HasFewOf c (wave_under b c test.pair))
      (λ test is. few_agree test.pair is) tests few

-- that holds of one delay for each pin
pub few_by_delays : (c : Circuit) (a b : Delays) → PinsAgree c a b → (tests : List Test) → HaveFewChanges c a tests
    → HaveFewChanges c b tests
few_by_delays c a b agree =
    all_few_agree c (delay_copy a) (delay_copy b) (λ pin line on. ap (λ delay wave time. wave (time -ℤ pos delay)) (agree pin line on))
