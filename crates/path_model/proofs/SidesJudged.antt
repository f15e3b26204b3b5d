-- The side pins of a step are allowed by what was computed of all lines exactly where they are by the lines' values and
-- steadiness. And the conditions of all steps are those of the first one and of those behind it.
use Rattle.std.proofs.Common.{◌≡◌, ℕ, ◌+◌, ◌<◌, ◌↔◌, Bool, List, drop, length, get_or, is_some, sym, ap, subst, ◌∙◌, arith}
use Rattle.std.specs.Prelude.{EachIndex}
use Rattle.pd_base.specs.declared.ids.LineId.{LineId}
use Rattle.pd_base.specs.declared.ids.PinRef.{PinRef}
use Rattle.pd_base.specs.declared.fault.Kind.{Kind}
use Rattle.pd_base.specs.Pair.{Vectors}
use Rattle.netlist.specs.Circuit.{Circuit, HasLines, gate_line, kind_at, line_count, pins_at}
use Rattle.netlist.specs.declared.side_conditions.SideCondition.{SideCondition}
use Rattle.netlist.specs.Conditions.{Allows, SidesAllowed, SidesMeet, side_condition}
use Rattle.netlist.specs.Paths.{Connects, IsSide}
use Rattle.netlist.specs.Steadiness.{is_steady, steady_value}
use Rattle.netlist.specs.Values.{value}
use Rattle.netlist.proofs.Evaluation.{all_at_place}
use Rattle.logic_values.specs.Known.{bit_at, known_at}
use Rattle.logic_values.specs.declared.steadiness.Steady.{Steady}
use Rattle.path_model.specs.Sides.{SidesPass}
use Rattle.path_model.proofs.PathSteps.{no_step, steps_from, connects_from}

-- a fact about two values goes over to equal ones
both : (P : Bool → Bool → Type 0) (a b x y : Bool) → a ≡ x → b ≡ y → P a b → P x y
both P a b x y first second fact = subst (P x) second (subst (λ v. P v b) first fact)

-- two lists have for each line its value under the second vector, and at which value it is steady
pub record AreComputed (c : Circuit) (pair : Vectors) (finals : List Bool) (steadiness : List Steady) : Type 0 where
  pub final : (line : ℕ) → line < line_count c → bit_at finals line ≡ value c pair.second line
  pub steady : (line : ℕ) → line < line_count c → known_at steadiness line ≡ steady_value c pair line

-- they do where they have a place for each line, and there what is said of it
pub are_computed : (c : Circuit) (pair : Vectors) (finals : List Bool) (steadiness : List Steady) (second : List Bool)
    → second ≡ pair.second → length finals ≡ line_count c → length steadiness ≡ line_count c
    → EachIndex finals (λ line. bit_at finals line ≡ value c second line)
    → EachIndex steadiness (λ line. known_at steadiness line ≡ steady_value c pair line)
    → AreComputed c pair finals steadiness
are_computed c pair finals steadiness second same final_places steady_places final steady = record {
  final = λ line within. final line (omega arith) ∙ ap (λ bits. value c bits line) same;
  steady = λ line within. steady line (omega arith);
}

module _ (c : Circuit) (pair : Vectors) (finals : List Bool) (steadiness : List Steady)
    (computed : AreComputed c pair finals steadiness)
    (condition : SideCondition) (step : PinRef) (reads : HasLines c (pins_at c step.gate.0)) where
  -- the values and the steadiness of a side pin's line are those that were computed
  side_judged : (pin : ℕ) (side : LineId) → IsSide c step pin side
      → Allows condition (bit_at finals side.0) (is_some (known_at steadiness side.0))
      ↔ Allows condition (value c pair.second side.0) (is_steady c pair side.0)
  side_judged pin side is =
      let within = all_at_place (λ (l : LineId). l.0 < line_count c) (pins_at c step.gate.0) pin side reads is.reads in
      let final = computed.final side.0 within in
      let steady = ap is_some (computed.steady side.0 within) in (
        both (Allows condition) _ _ _ _ final steady,
        both (Allows condition) _ _ _ _ (sym final) (sym steady),
      )

  -- so the sides pass exactly where they are allowed
  sides_at_pins : (kind : Kind) (line : ℕ) → condition ≡ side_condition kind (kind_at c step.gate.0) (value c pair.second line)
      → SidesPass condition finals steadiness step.pin (pins_at c step.gate.0) ↔ SidesAllowed c kind pair line step
  sides_at_pins kind line asks = (
    λ pass pin side is.
        subst (λ asked. Allows asked (value c pair.second side.0) (is_steady c pair side.0)) asks
        ((side_judged pin side is).0 (pass pin side is.other is.reads)),
    λ allowed pin side other at.
        let is : IsSide c step pin side = record { other = other; reads = at } in
        (side_judged pin side is).1
        (subst (λ asked. Allows asked (value c pair.second side.0) (is_steady c pair side.0)) (sym asks) (allowed pin side is)),
  )

  -- whatever list of the gate's pins was gone through
  pub sides_judged : (kind : Kind) (line : ℕ) (pins : List LineId) → pins ≡ pins_at c step.gate.0
      → condition ≡ side_condition kind (kind_at c step.gate.0) (value c pair.second line)
      → SidesPass condition finals steadiness step.pin pins ↔ SidesAllowed c kind pair line step
  sides_judged kind line pins own asks =
      subst (λ lines. SidesPass condition finals steadiness step.pin lines ↔ SidesAllowed c kind pair line step) (sym own)
      (sides_at_pins kind line asks)

module _ (c : Circuit) (kind : Kind) (pair : Vectors) where
  -- whether the sides of steps meet the conditions is decided by other steps, which connect from a line of the circuit
  pub record AreDecidedBy (first : ℕ) (steps : List PinRef) (line : ℕ) (rest : List PinRef) : Type 0 where
    pub within : line < line_count c
    pub connects : Connects c line rest
    pub same : SidesMeet c kind pair first steps ↔ SidesMeet c kind pair line rest

  module _ (steps : List PinRef) (place : ℕ) (within : place < length steps) (line : ℕ) where
    -- the step at this place
    abbrev step : PinRef
    step = get_or steps place no_step

    -- the conditions from a step on are its own and those of the steps behind it
    pub sides_from : SidesMeet c kind pair line (drop place steps)
        → SidesAllowed c kind pair line step × SidesMeet c kind pair (gate_line c step.gate.0) (drop (place + 1) steps)
    sides_from meet = subst (SidesMeet c kind pair line) (steps_from steps place within) meet

    -- where the sides of a step are allowed, the steps behind it decide
    pub decided_more : (first : ℕ) (all : List PinRef) → SidesAllowed c kind pair line step
        → AreDecidedBy first all line (drop place steps)
        → AreDecidedBy first all (gate_line c step.gate.0) (drop (place + 1) steps)
    decided_more first all allowed are =
        let from = connects_from c steps place line within are.connects in
        record {
          within = omega (arith, from.0.in_circuit);
          connects = from.1;
          same = (
            λ meet. (sides_from (are.same.0 meet)).1,
            λ rest. are.same.1 (subst (SidesMeet c kind pair line) (sym (steps_from steps place within)) (allowed, rest)),
          );
        }
