-- A robust test shows each late path, whatever the pins' copies are that keep the two laws of PinCopies.antt: below a
-- prefix's length its last line has its value under the first vector, and that is not its final one.
use Rattle.std.proofs.Common.{◌≡◌, ◌≢◌, ℕ, ◌+◌, ◌<◌, ℤ, pos, ◌+ℤ◌, ◌<ℤ◌, int_lt, Bool, true, false, not, List, [], ◌∷◌, sum_by, refl, sym, ap, ◌∙◌, subst, arith}
use Rattle.std.proofs.lemmas.Bool.{cond-true}
use Rattle.std.proofs.lemmas.Int.{ints}
use Rattle.std.proofs.lemmas.List.Sums.{sum_by-cons}
use Rattle.pd_base.specs.declared.ids.LineId.{LineId}
use Rattle.pd_base.specs.declared.ids.PinRef.{PinRef}
use Rattle.pd_base.specs.declared.fault.Direction.{Direction}
use Rattle.pd_base.specs.declared.fault.Kind.TheVariants.{Robust}
use Rattle.pd_base.specs.Pair.{Vectors}
use Rattle.pd_base.specs.Route.{Route}
use Rattle.pd_base.specs.Target.{target_of}
use Rattle.netlist.specs.Circuit.{Circuit, source_count, gate_line}
use Rattle.netlist.specs.Lawful.{IsCircuit}
use Rattle.netlist.specs.Values.{bit_of, value}
use Rattle.netlist.specs.Steadiness.{IsSteadyAt}
use Rattle.netlist.specs.Waves.{Delays, PinCopy, wave_under, delay_copy}
use Rattle.netlist.specs.Pins.{IsPinOn}
use Rattle.netlist.specs.Paths.{Connects, line_after, IsPrefix, end_of}
use Rattle.netlist.specs.Conditions.{Launches, SidesAllowed, SidesMeet, Meets}
use Rattle.netlist.specs.Meaning.{ChangesNoEarlier, Detects, HoldsBack}
use Rattle.path_laws.proofs.PinCopies.{KeepsConstants, Shift, Postpones, delay_copy-keeps_constants, delay_copy-postpones}
use Rattle.path_laws.proofs.Steadiness.{steady_wave, steady_first}
use Rattle.path_laws.proofs.PinPlaces.{pin_ref, copy_value}
use Rattle.path_laws.proofs.GateValues.{value_of_source, wave_of_source, value_of_gate, wave_of_gate}
use Rattle.path_laws.proofs.PathSteps.{step_differs, robust_sides_held}
use Rattle.path_laws.proofs.Prefixes.{own_prefix, prefix_is_prefix, prefix_meets}

-- the sum of what the steps' pins take to show the final values of the lines that they read
abbrev pub shift_along : Shift → Circuit → Vectors → ℕ → List PinRef → ℕ
shift_along shift c pair line [] = 0
shift_along shift c pair line (step ∷ steps) =
    shift step (value c pair.second line) + shift_along shift c pair (gate_line c step.gate.0) steps

-- below this time the line's wave has the other value than the final one
abbrev pub IsOtherBelow : PinCopy → Circuit → Vectors → ℕ → ℤ → Type 0
IsOtherBelow copy c pair line bound =
    (time : ℤ) → time <ℤ bound → wave_under copy c pair line time ≡ not (value c pair.second line)

-- a time before 0 passes the test of a source's wave
before_zero : (time : ℤ) → time <ℤ pos 0 → int_lt time (pos 0) ≡ true
before_zero time before = grind (arith, ints)

-- a value and its complement differ
pub never_both : (bit value : Bool) → bit ≡ not value → bit ≢ value
never_both true true other same = absurd cc
never_both true false other same = absurd cc
never_both false true other same = absurd cc
never_both false false other same = absurd cc

module _ (c : Circuit) (pair : Vectors) where
  module _ (direction : Direction) (source : ℕ)
      (within : source < source_count c) (launches : Launches pair direction source) where
    -- where the transition is launched, the source's values under the two vectors differ
    pub launched_differs : value c pair.first source ≡ not (value c pair.second source)
    launched_differs =
        value_of_source c pair.first source within ∙ launches.first
        ∙ ap not (sym launches.second) ∙ ap not (sym (value_of_source c pair.second source within))

    -- before time 0 the source of a launched transition has the other value than the final one
    pub launched_before : (copy : PinCopy) → IsOtherBelow copy c pair source (pos 0)
    launched_before copy time before =
        wave_of_source copy c pair source within time
        ∙ cond-true (int_lt time (pos 0)) (bit_of pair.first source) (bit_of pair.second source) (before_zero time before)
        ∙ sym (value_of_source c pair.first source within)
        ∙ launched_differs

module _ (c : Circuit) (is : IsCircuit c) (pair : Vectors) where
  -- where a line's values under the two vectors differ, so do those of the gate behind a robust step on it
  first_step : (step : PinRef) (line : ℕ) → IsPinOn c step line → SidesAllowed c Robust pair line step
      → value c pair.first line ≡ not (value c pair.second line)
      → value c pair.first (gate_line c step.gate.0) ≡ not (value c pair.second (gate_line c step.gate.0))
  first_step step line on allowed differs =
      let shown = λ (pin : ℕ) (side : LineId). value c pair.first side.0 in
      value_of_gate c is pair.first step.gate.0 on.in_circuit
      ∙ step_differs c is pair step line on shown differs
      (robust_sides_held c pair step line shown (λ pin side bit steady. steady_first c pair side.0 bit steady) allowed)

  -- and those of the last line of robust steps from it
  first_along : (line : ℕ) (steps : List PinRef) → Connects c line steps → SidesMeet c Robust pair line steps
      → value c pair.first line ≡ not (value c pair.second line)
      → value c pair.first (line_after c line steps) ≡ not (value c pair.second (line_after c line steps))
  first_along line [] connects meet differs = differs
  first_along line (step ∷ steps) connects meet differs =
      first_along (gate_line c step.gate.0) steps connects.1 meet.1 (first_step step line connects.0 meet.0 differs)

-- under the first vector the last line of a robust path has the other value than under the second
pub robust_first : (c : Circuit) → IsCircuit c → (path : Route) (direction : Direction) (pair : Vectors) → IsPrefix c path
    → Meets c (target_of path direction Robust) pair → value c pair.first (end_of c path) ≡ not (value c pair.second (end_of c path))
robust_first c is path direction pair prefix meets =
    first_along c is pair path.source.0 path.steps prefix.connects meets.sides
    (launched_differs c pair direction path.source.0 prefix.source meets.launches)

module _ (copy : PinCopy) (keeps : KeepsConstants copy) (shift : Shift) (postpones : Postpones copy shift)
    (c : Circuit) (is : IsCircuit c) where
  -- a line that has the other value below a time hands it on through a robust step, for as long again as the pin takes
  wave_step : (pair : Vectors) (step : PinRef) (line : ℕ) (bound : ℤ) → IsPinOn c step line
      → SidesAllowed c Robust pair line step
      → IsOtherBelow copy c pair line bound
      → IsOtherBelow copy c pair (gate_line c step.gate.0) (bound +ℤ pos (shift step (value c pair.second line)))
  wave_step pair step line bound on allowed before time within =
      wave_of_gate copy c is pair step.gate.0 on.in_circuit time
      ∙ step_differs c is pair step line on shown
      (postpones step (wave_under copy c pair line) (value c pair.second line) bound before time within)
      (robust_sides_held c pair step line shown constant allowed)
    where
      shown : ℕ → LineId → Bool
      shown = copy_value copy step.gate.0 (wave_under copy c pair) time

      constant : (pin : ℕ) (side : LineId) (bit : Bool) → IsSteadyAt c pair side.0 bit → shown pin side ≡ bit
      constant pin side bit steady =
          keeps (pin_ref step.gate.0 pin) (wave_under copy c pair side.0) bit
          (steady_wave copy keeps c pair side.0 bit steady) time

  -- and through robust steps one behind another, for as long as their pins take in all
  wave_along : (pair : Vectors) (line : ℕ) (steps : List PinRef) (bound : ℤ) → Connects c line steps
      → SidesMeet c Robust pair line steps
      → IsOtherBelow copy c pair line bound
      → IsOtherBelow copy c pair (line_after c line steps) (bound +ℤ pos (shift_along shift c pair line steps))
  wave_along pair line [] bound connects meet before time within = before time (omega (arith, ints))
  wave_along pair line (step ∷ steps) bound connects meet before time within =
      wave_along pair (gate_line c step.gate.0) steps (bound +ℤ pos (shift step (value c pair.second line)))
      connects.1 meet.1
      (wave_step pair step line bound connects.0 meet.0 before)
      time (omega (arith, ints))

  -- at each time below what the steps' pins take in all, the path's last line has its value under the first vector
  pub robust_unchanged : (path : Route) (direction : Direction) (pair : Vectors) → IsPrefix c path
      → Meets c (target_of path direction Robust) pair
      → (time : ℤ) → time <ℤ pos (shift_along shift c pair path.source.0 path.steps)
      → wave_under copy c pair (end_of c path) time ≡ value c pair.first (end_of c path)
  robust_unchanged path direction pair prefix meets time within =
      let source = path.source.0 in
      let before = launched_before c pair direction source prefix.source meets.launches copy in
      wave_along pair source path.steps (pos 0) prefix.connects meets.sides before time (omega (arith, ints))
      ∙ sym (robust_first c is path direction pair prefix meets)

-- under a delay assignment the pins take in all the path's length
delay_along : (delays : Delays) (c : Circuit) (pair : Vectors) (line : ℕ) (steps : List PinRef)
    → shift_along (λ pin bit. delays pin) c pair line steps ≡ sum_by delays steps
delay_along delays c pair line [] = refl
delay_along delays c pair line (step ∷ steps) =
    ap (λ rest. delays step + rest) (delay_along delays c pair (gate_line c step.gate.0) steps)
    ∙ sym (sum_by-cons delays step steps)

module _ (c : Circuit) (is : IsCircuit c) (path : Route) (direction : Direction) (pair : Vectors) (prefix : IsPrefix c path)
    (meets : Meets c (target_of path direction Robust) pair) where
  -- under each delay assignment the path's last line changes, and no earlier than after the path's length
  changes_no_earlier : (delays : Delays) → ChangesNoEarlier c path pair delays
  changes_no_earlier delays = record {
    differs = never_both _ _ (robust_first c is path direction pair prefix meets);
    unchanged = λ time within.
        robust_unchanged (delay_copy delays) (delay_copy-keeps_constants delays)
        (λ pin bit. delays pin) (delay_copy-postpones delays) c is path direction pair prefix meets time
        (subst (λ length. time <ℤ pos length) (sym (delay_along delays c pair path.source.0 path.steps)) within);
  }

-- A robust test holds each prefix of its path back: below the prefix's length its last line has its value under the first
-- vector, which is not the one under the second.
pub robust_holds_back : (c : Circuit) → IsCircuit c → (path : Route) (direction : Direction) (pair : Vectors)
    → IsPrefix c path → Meets c (target_of path direction Robust) pair → HoldsBack c path pair
robust_holds_back c is path direction pair whole meets delays prefix of =
    changes_no_earlier c is prefix direction pair (prefix_is_prefix c prefix path of whole)
    (prefix_meets c prefix path of Robust direction pair meets) delays

-- a path that is held back under each delay assignment is sampled wrong whenever it is late
pub held_back_detects : (c : Circuit) (path : Route) (pair : Vectors) → HoldsBack c path pair → Detects c path pair
held_back_detects c path pair holds delays time late same =
    let changes = holds delays path (own_prefix path) in
    changes.differs (sym (changes.unchanged time late) ∙ same)

-- a robust test shows the path late under every delay assignment under which it is late
pub robust_detects : (c : Circuit) → IsCircuit c → (path : Route) (direction : Direction) (pair : Vectors)
    → IsPrefix c path → Meets c (target_of path direction Robust) pair → Detects c path pair
robust_detects c is path direction pair prefix meets =
    held_back_detects c path pair (robust_holds_back c is path direction pair prefix meets)
