-- The length of steps for the values at which lines end, step by step.
use Rattle.std.proofs.Common.{◌≡◌, ℕ, ◌+◌, ◌<◌, Bool, false, List, [], ◌∷◌, drop, length, get_or, refl, ap, ap₂, subst, arith}
use Rattle.std.proofs.lemmas.List.{drop_more}
use Rattle.pd_base.specs.declared.ids.PinRef.{PinRef}
use Rattle.netlist.specs.Circuit.{Circuit, gate_line, line_count}
use Rattle.netlist.specs.Pins.{IsPin}
use Rattle.netlist.specs.Paths.{Connects}
use Rattle.netlist.proofs.PinRow.{pin_on_line}
use Rattle.rise_fall.specs.Showing.{AreValuesUnder}
use Rattle.rise_fall.specs.Waves.{RiseFallDelays, steps_length}

-- what is read where there is no step
abbrev pub no_step : PinRef
no_step = record { gate = record { 0 = 0 }; pin = 0 }

-- what the pins of steps from a line take in all, where lines end at these values
abbrev pub measured : RiseFallDelays → Circuit → List Bool → ℕ → List PinRef → ℕ
measured delays c values line [] = 0
measured delays c values line (step ∷ steps) =
    delays step (get_or values line false) + measured delays c values (gate_line c step.gate.0) steps

-- steps that lead on from a line, and what the pins of all steps take beside those of these
pub record IsMeasured (delays : RiseFallDelays) (c : Circuit) (values : List Bool) (whole total line : ℕ) (steps : List PinRef) : Type 0 where
  pub inside : line < line_count c
  pub connects : Connects c line steps
  pub sum : total + measured delays c values line steps ≡ whole

module _ (delays : RiseFallDelays) (c : Circuit) (values : List Bool) where
  -- the first of them is a pin of the circuit
  pub first_pin : (whole total line : ℕ) (all : List PinRef) (place : ℕ) → place < length all
      → IsMeasured delays c values whole total line (drop place all) → IsPin c (get_or all place no_step)
  first_pin whole total line all place within is =
      let steps = drop_more all place no_step within in
      pin_on_line c (get_or all place no_step) line (subst (Connects c line) steps is.connects).0

  -- one step more
  pub measured_more : (whole total line delay : ℕ) (all : List PinRef) (place : ℕ) → place < length all
      → delay ≡ delays (get_or all place no_step) (get_or values line false)
      → IsMeasured delays c values whole total line (drop place all)
      → IsMeasured delays c values whole (total + delay) (gate_line c (get_or all place no_step).gate.0) (drop (place + 1) all)
  measured_more whole total line delay all place within counts is =
      let steps = drop_more all place no_step within in
      let connects = subst (Connects c line) steps is.connects in
      let sum = ap (measured delays c values line) steps in record {
        inside = omega (arith, connects.0.in_circuit);
        connects = connects.1;
        sum = omega (arith, is.sum, sum, counts);
      }

  -- for the values under a vector this is the length
  pub measured_is_length : (vector : List Bool) → AreValuesUnder c vector values → (line : ℕ) (steps : List PinRef) → line < line_count c
      → Connects c line steps → measured delays c values line steps ≡ steps_length delays c vector line steps
  measured_is_length vector are line [] within connects = refl
  measured_is_length vector are line (step ∷ steps) within connects =
      ap₂ (λ own rest. delays step own + rest) (are.each line within)
      (measured_is_length vector are (gate_line c step.gate.0) steps (omega (arith, connects.0.in_circuit)) connects.1)
