-- A line that is steady at a value has it under both vectors, and its wave has it at every time, whatever the pins'
-- copies are, as long as a constant wave has constant copies.
use Rattle.std.proofs.Common.{◌≡◌, ℕ, ◌+◌, ℤ, pos, int_lt, Bool, true, false, List, [], ◌∷◌, Option, Some, None, if◌then◌else◌, refl}
use Rattle.std.specs.List.{AllZip}
use Rattle.pd_base.specs.Pair.{Vectors}
use Rattle.pd_base.specs.declared.ids.PinRef.{PinRef}
use Rattle.netlist.specs.Circuit.{Circuit, kind_at}
use Rattle.netlist.specs.Values.{bit_of, gate_value, value}
use Rattle.netlist.specs.Steadiness.{is_known_as, known_gate_value, agreed_bit, steady_value, IsSteadyAt}
use Rattle.netlist.specs.Waves.{Delays, Wave, PinCopy, source_wave, pin_values, wave_under, wave_of, delay_copy}
use Rattle.path_laws.proofs.RelatedValues.{values_related_anywhere}
use Rattle.path_laws.proofs.PinCopies.{KeepsConstants, delay_copy-keeps_constants}
use Rattle.path_laws.proofs.ThreeValues.{Agrees, agrees_at, agrees_gate}

-- at every time a known value is the wave's
abbrev IsConstant : Option Bool → Wave → Type 0
IsConstant known wave = (time : ℤ) → Agrees known (wave time)

-- where two bits are one, that is the second
agreed_is : (first second : Bool) → Agrees (if is_known_as first (Some second) then Some second else None) second
agreed_is true true = refl
agreed_is true false = tt
agreed_is false true = tt
agreed_is false false = refl

-- and the first
agreed_was : (first second : Bool) → Agrees (if is_known_as first (Some second) then Some second else None) first
agreed_was true true = refl
agreed_was true false = tt
agreed_was false true = tt
agreed_was false false = refl

-- a known value that agrees with both choices agrees with the one that is taken
agrees_either : (known : Option Bool) (test x y : Bool) → Agrees known x → Agrees known y
    → Agrees known (if test then x else y)
agrees_either known true x y first second = first
agrees_either known false x y first second = second

-- the wave of a source on which both vectors agree is constant
agrees_source_wave : (pair : Vectors) (source : ℕ) → IsConstant (agreed_bit pair source) (source_wave pair source)
agrees_source_wave pair source time =
    let first = bit_of pair.first source in
    let second = bit_of pair.second source in
    agrees_either (agreed_bit pair source) (int_lt time (pos 0)) first second
    (agreed_was first second) (agreed_is first second)

-- where the bits of a vector are those that both vectors have, a line's value is the one that it is steady at
agrees_under : (c : Circuit) (pair : Vectors) (vector : List Bool)
    → ((source : ℕ) → Agrees (agreed_bit pair source) (bit_of vector source))
    → (line : ℕ) → Agrees (steady_value c pair line) (value c vector line)
agrees_under c pair vector bits =
    values_related_anywhere c Agrees
    (agreed_bit pair) (λ gate values. known_gate_value (kind_at c gate) values)
    (bit_of vector) (λ gate values. gate_value (kind_at c gate) values)
    bits (λ gate knowns values all. agrees_gate (kind_at c gate) knowns values all)

module _ (copy : PinCopy) (keeps : KeepsConstants copy) where
  -- a pin's copy of a constant wave is constant
  constant_copy : (pin : PinRef) (known : Option Bool) (wave : Wave) → IsConstant known wave
      → IsConstant known (copy pin wave)
  constant_copy pin None wave constant time = tt
  constant_copy pin (Some known) wave constant time = keeps pin wave known constant time

  -- and so are those of all pins of a gate
  agrees_pins : (gate pin : ℕ) (knowns : List (Option Bool)) (waves : List Wave) → AllZip IsConstant knowns waves
      → (time : ℤ) → AllZip Agrees knowns (pin_values copy gate pin waves time)
  agrees_pins gate pin [] [] all time = tt
  agrees_pins gate pin [] (wave ∷ waves) all time = absurd all
  agrees_pins gate pin (known ∷ knowns) [] all time = absurd all
  agrees_pins gate pin (known ∷ knowns) (wave ∷ waves) all time =
      let first : PinRef = record { gate = record { 0 = gate }; pin = pin } in
      (constant_copy first known wave all.0 time, agrees_pins gate (pin + 1) knowns waves all.1 time)

  -- the wave of a steady line is constant
  agrees_wave : (c : Circuit) (pair : Vectors) (line : ℕ)
      → IsConstant (steady_value c pair line) (wave_under copy c pair line)
  agrees_wave c pair =
      values_related_anywhere c IsConstant
      (agreed_bit pair) (λ gate values. known_gate_value (kind_at c gate) values)
      (source_wave pair) (λ gate waves time. gate_value (kind_at c gate) (pin_values copy gate 0 waves time))
      (agrees_source_wave pair)
      (λ gate knowns waves all time.
      agrees_gate (kind_at c gate) knowns (pin_values copy gate 0 waves time) (agrees_pins gate 0 knowns waves all time))

  -- a steady line's wave has its value at every time
  pub steady_wave : (c : Circuit) (pair : Vectors) (line : ℕ) (bit : Bool) → IsSteadyAt c pair line bit
      → (time : ℤ) → wave_under copy c pair line time ≡ bit
  steady_wave c pair line bit steady time =
      agrees_at (steady_value c pair line) bit (wave_under copy c pair line time) steady (agrees_wave c pair line time)

-- the same for the waves of a delay assignment
pub steady_wave_of : (c : Circuit) (pair : Vectors) (delays : Delays) (line : ℕ) (bit : Bool)
    → IsSteadyAt c pair line bit
    → (time : ℤ) → wave_of c pair delays line time ≡ bit
steady_wave_of c pair delays line bit steady time =
    steady_wave (delay_copy delays) (delay_copy-keeps_constants delays) c pair line bit steady time

module _ (c : Circuit) (pair : Vectors) (line : ℕ) (bit : Bool) (steady : IsSteadyAt c pair line bit) where
  -- a steady line has its value under the first vector
  pub steady_first : value c pair.first line ≡ bit
  steady_first =
      agrees_at (steady_value c pair line) bit (value c pair.first line) steady
      (agrees_under c pair pair.first (λ source. agreed_was (bit_of pair.first source) (bit_of pair.second source)) line)

  -- a steady line has its value under the second vector
  pub steady_second : value c pair.second line ≡ bit
  steady_second =
      agrees_at (steady_value c pair line) bit (value c pair.second line) steady
      (agrees_under c pair pair.second (λ source. agreed_is (bit_of pair.first source) (bit_of pair.second source)) line)
