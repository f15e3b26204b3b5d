-- One step of a path: where the on-path line differs from its final value and the gate's side pins are held, the gate's line
-- differs from its own. And that the conditions of a robust test hold the sides of a step.
use Rattle.std.proofs.Common.{◌≡◌, ℕ, Bool, true, not, Option, Some, None, is_some, refl, sym, ap, ◌∙◌, subst}
use Rattle.pd_base.specs.declared.ids.LineId.{LineId}
use Rattle.pd_base.specs.declared.ids.PinRef.{PinRef}
use Rattle.pd_base.specs.declared.fault.Kind.TheVariants.{Robust}
use Rattle.pd_base.specs.Pair.{Vectors}
use Rattle.netlist.specs.Circuit.{Circuit, gate_line, kind_at, pins_at}
use Rattle.netlist.specs.Lawful.{IsCircuit, IsFanIn}
use Rattle.netlist.specs.Values.{gate_value, value}
use Rattle.netlist.specs.Steadiness.{is_steady, steady_value, IsSteadyAt}
use Rattle.netlist.specs.Pins.{IsPinOn}
use Rattle.netlist.specs.Paths.{IsSide}
use Rattle.netlist.specs.declared.side_conditions.SideCondition.{SideCondition}
use Rattle.netlist.specs.declared.side_conditions.SideCondition.TheVariants.{Free, EndsAt, SteadyAt, AnySteady}
use Rattle.netlist.specs.Conditions.{Allows, SidesAllowed, side_condition}
use Rattle.path_laws.proofs.Steadiness.{steady_second}
use Rattle.path_laws.proofs.OnPathPin.{Held, IsHeld, gate_differs}
use Rattle.path_laws.proofs.PinPlaces.{at_pins, length-at_pins, differ_at_pins}
use Rattle.path_laws.proofs.GateValues.{value_of_gate}

-- what each side pin of a step shows and its line's final value are held as the step's gate asks
abbrev pub SidesHeld : Circuit → Vectors → PinRef → Bool → (ℕ → LineId → Bool) → Type 0
SidesHeld c pair step final shown =
    (pin : ℕ) (side : LineId) → IsSide c step pin side
    → IsHeld (kind_at c step.gate.0) final (shown pin side) (value c pair.second side.0)

-- where the on-path pin shows the other value than its line's final one and the sides are held, so does the gate
pub step_differs : (c : Circuit) → IsCircuit c → (pair : Vectors) (step : PinRef) (line : ℕ) → IsPinOn c step line
    → (shown : ℕ → LineId → Bool) → shown step.pin (record { 0 = line }) ≡ not (value c pair.second line)
    → SidesHeld c pair step (value c pair.second line) shown
    → gate_value (kind_at c step.gate.0) (at_pins shown (pins_at c step.gate.0))
    ≡ not (value c pair.second (gate_line c step.gate.0))
step_differs c is pair step line on shown other held =
    let gate = step.gate.0 in
    let kind = kind_at c gate in
    let pins = pins_at c gate in
    let final = value c pair.second line in
    let last = λ (pin : ℕ) (side : LineId). value c pair.second side.0 in
    gate_differs kind final step.pin (at_pins shown pins) (at_pins last pins)
    (subst (IsFanIn kind) (sym (length-at_pins last pins)) (is.fan_in gate on.in_circuit))
    (differ_at_pins (IsHeld kind final) final shown last pins step.pin (record { 0 = line }) on.reads other refl
    (λ pin side apart at. held pin side (record { other = apart; reads = at })))
    ∙ ap not (sym (value_of_gate c is pair.second gate on.in_circuit))

module _ (c : Circuit) (pair : Vectors) where
  -- what is shown of a steady line is its final value
  steady_shown : (side : ℕ) (shown : Bool) (known : Option Bool) → steady_value c pair side ≡ known
      → ((bit : Bool) → IsSteadyAt c pair side bit → shown ≡ bit) → is_some known ≡ true → shown ≡ value c pair.second side
  steady_shown side shown None e same some = absurd cc
  steady_shown side shown (Some bit) e same some = same bit e ∙ sym (steady_second c pair side bit e)

  -- a side that does what is asked is held, where what its pin shows is constant on steady lines
  allowed_is_held : (condition : SideCondition) (side : ℕ) (shown : Bool)
      → ((bit : Bool) → IsSteadyAt c pair side bit → shown ≡ bit)
      → Allows condition (value c pair.second side) (is_steady c pair side)
      → Held condition shown (value c pair.second side)
  allowed_is_held Free side shown same allowed = tt
  allowed_is_held (EndsAt bit) side shown same allowed = allowed
  allowed_is_held (SteadyAt bit) side shown same allowed =
      (steady_shown side shown (steady_value c pair side) refl same allowed.1 ∙ allowed.0, allowed.0)
  allowed_is_held AnySteady side shown same allowed =
      steady_shown side shown (steady_value c pair side) refl same allowed

  -- a robust test holds the sides of a step, where what their pins show is constant on steady lines
  pub robust_sides_held : (step : PinRef) (line : ℕ) (shown : ℕ → LineId → Bool)
      → ((pin : ℕ) (side : LineId) (bit : Bool) → IsSteadyAt c pair side.0 bit → shown pin side ≡ bit)
      → SidesAllowed c Robust pair line step → SidesHeld c pair step (value c pair.second line) shown
  robust_sides_held step line shown same allowed pin side is =
      allowed_is_held (side_condition Robust (kind_at c step.gate.0) (value c pair.second line)) side.0
      (shown pin side) (same pin side) (allowed pin side is)
