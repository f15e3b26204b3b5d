-- A robust test shows each late path under every rise and fall delay of each pin, too: the laws of path_laws at the copies of
-- WindowLaws.antt. And with two equal delays at each pin the waves are those of one delay.
use Rattle.std.proofs.Common.{◌≡◌, ℕ, ◌+◌, ℤ, pos, ◌<ℤ◌, List, [], ◌∷◌, refl, ap, ap₂, subst, ◌∙◌}
use Rattle.pd_base.specs.declared.ids.PinRef.{PinRef}
use Rattle.pd_base.specs.declared.fault.Direction.{Direction}
use Rattle.pd_base.specs.declared.fault.Kind.TheVariants.{Robust}
use Rattle.pd_base.specs.Pair.{Vectors}
use Rattle.pd_base.specs.Route.{Route}
use Rattle.pd_base.specs.Target.{target_of}
use Rattle.std.specs.List.{AllZip}
use Rattle.netlist.specs.Circuit.{Circuit, gate_line, kind_at}
use Rattle.netlist.specs.Lawful.{IsCircuit}
use Rattle.netlist.specs.Values.{gate_value, value}
use Rattle.netlist.specs.Waves.{Delays, Wave, source_wave, pin_values, delay_copy, wave_of}
use Rattle.rise_fall.specs.Waves.{RiseFallDelays, rise_fall_copy, rise_fall_wave, steps_length, DetectsRiseFall}
use Rattle.netlist.specs.Paths.{IsPrefix}
use Rattle.netlist.specs.Conditions.{Meets}
use Rattle.path_laws.proofs.PinPlaces.{pin_ref}
use Rattle.path_laws.proofs.RelatedValues.{values_related_anywhere}
use Rattle.path_laws.proofs.RobustPath.{never_both, robust_first, robust_unchanged, shift_along}
use Rattle.rise_fall.proofs.WindowLaws.{one_delay, rise_fall-keeps_constants, rise_fall-postpones}

-- the length of steps for the final values is what their pins take to show them
length_along : (delays : RiseFallDelays) (c : Circuit) (pair : Vectors) (line : ℕ) (steps : List PinRef)
    → steps_length delays c pair.second line steps ≡ shift_along delays c pair line steps
length_along delays c pair line [] = refl
length_along delays c pair line (step ∷ steps) =
    ap (λ rest. delays step (value c pair.second line) + rest) (length_along delays c pair (gate_line c step.gate.0) steps)

-- a robust test shows the path late under all rise and fall delays under which it is late for its final values
pub robust_detects_rise_fall : (c : Circuit) → IsCircuit c → (path : Route) (direction : Direction) (pair : Vectors)
    → IsPrefix c path → Meets c (target_of path direction Robust) pair → DetectsRiseFall c path pair
robust_detects_rise_fall c is path direction pair prefix meets delays time late =
    never_both _ _
    (robust_unchanged (rise_fall_copy delays) (rise_fall-keeps_constants delays) delays (rise_fall-postpones delays)
    c is path direction pair prefix meets time
    (subst (λ length. time <ℤ pos length) (length_along delays c pair path.source.0 path.steps) late)
    ∙ robust_first c is path direction pair prefix meets)

module _ (delays : Delays) where
  -- waves that are the same at each time
  abbrev AreSame : Wave → Wave → Type 0
  AreSame wave other = (time : ℤ) → wave time ≡ other time

  -- each pin with two equal delays shows what it shows with one
  same_pins : (gate pin : ℕ) (waves others : List Wave) → AllZip AreSame waves others → (time : ℤ)
      → pin_values (rise_fall_copy (λ pin bit. delays pin)) gate pin waves time ≡ pin_values (delay_copy delays) gate pin others time
  same_pins gate pin [] [] same time = refl
  same_pins gate pin [] (other ∷ others) same time = absurd same
  same_pins gate pin (wave ∷ waves) [] same time = absurd same
  same_pins gate pin (wave ∷ waves) (other ∷ others) same time =
      ap₂ (λ value values. value ∷ values)
      (one_delay (delays (pin_ref gate pin)) wave time ∙ same.0 _)
      (same_pins gate (pin + 1) waves others same.1 time)

  -- and each line has the wave that it has with one
  pub one_delay_waves : (c : Circuit) (pair : Vectors) (line : ℕ) (time : ℤ)
      → rise_fall_wave c pair (λ pin bit. delays pin) line time ≡ wave_of c pair delays line time
  one_delay_waves c pair =
      values_related_anywhere c AreSame
      (source_wave pair) (λ gate waves time. gate_value (kind_at c gate) (pin_values (rise_fall_copy (λ pin bit. delays pin)) gate 0 waves time))
      (source_wave pair) (λ gate waves time. gate_value (kind_at c gate) (pin_values (delay_copy delays) gate 0 waves time))
      (λ source time. refl)
      (λ gate waves others same time. ap (gate_value (kind_at c gate)) (same_pins gate 0 waves others same time))
