-- A nonrobust test shows each late path whose sides have settled, under transport delays: read back from the time of
-- sampling, each line of the path lacks its final value. And a robust test is a nonrobust one.
use Rattle.std.proofs.Common.{◌≡◌, ℕ, ◌+◌, ℤ, pos, ◌-ℤ◌, ◌<ℤ◌, Bool, true, false, not, List, [], ◌∷◌, ◌++◌, sum_by, sym, ◌∙◌, subst, arith}
use Rattle.std.proofs.lemmas.Int.{ints}
use Rattle.std.proofs.lemmas.List.Sums.{sum_by-append, sum_by-cons}
use Rattle.pd_base.specs.declared.ids.LineId.{LineId}
use Rattle.pd_base.specs.declared.ids.PinRef.{PinRef}
use Rattle.pd_base.specs.declared.fault.Direction.{Direction}
use Rattle.pd_base.specs.declared.fault.Kind.{Kind}
use Rattle.pd_base.specs.declared.fault.Kind.TheVariants.{Robust, Nonrobust}
use Rattle.pd_base.specs.Pair.{Vectors}
use Rattle.pd_base.specs.Route.{Route}
use Rattle.pd_base.specs.Target.{target_of}
use Rattle.netlist.specs.declared.kind.GateKind.{GateKind}
use Rattle.netlist.specs.declared.kind.GateKind.TheVariants.{And, Nand, Or, Nor, Xor, Xnor, Not, Buff}
use Rattle.netlist.specs.Circuit.{Circuit, gate_line, kind_at}
use Rattle.netlist.specs.Lawful.{IsCircuit}
use Rattle.netlist.specs.Values.{value}
use Rattle.netlist.specs.Steadiness.{is_steady}
use Rattle.netlist.specs.Waves.{Delays, wave_of, delay_copy}
use Rattle.netlist.specs.Pins.{IsPinOn}
use Rattle.netlist.specs.Paths.{Connects, line_after, IsPrefix, end_of}
use Rattle.netlist.specs.Conditions.{Allows, SidesAllowed, SidesMeet, Meets, side_condition}
use Rattle.netlist.specs.Meaning.{AreSettledSides, AreSettled, DetectsSettled, DetectsSettledAlong}
use Rattle.path_laws.proofs.OnPathPin.{IsHeld}
use Rattle.path_laws.proofs.PinPlaces.{pin_ref}
use Rattle.path_laws.proofs.GateValues.{wave_of_gate}
use Rattle.path_laws.proofs.PathSteps.{step_differs}
use Rattle.path_laws.proofs.Prefixes.{prefix_is_prefix, prefix_meets}
use Rattle.path_laws.proofs.RobustPath.{launched_before, never_both}

-- a side that the table allows for a robust test it allows for a nonrobust one
nonrobust_side : (kind : GateKind) (on_path final steady : Bool)
    → Allows (side_condition Robust kind on_path) final steady → Allows (side_condition Nonrobust kind on_path) final steady
nonrobust_side And true final steady allowed = allowed
nonrobust_side And false final steady allowed = allowed.0
nonrobust_side Nand true final steady allowed = allowed
nonrobust_side Nand false final steady allowed = allowed.0
nonrobust_side Or true final steady allowed = allowed.0
nonrobust_side Or false final steady allowed = allowed
nonrobust_side Nor true final steady allowed = allowed.0
nonrobust_side Nor false final steady allowed = allowed
nonrobust_side Xor on_path final steady allowed = tt
nonrobust_side Xnor on_path final steady allowed = tt
nonrobust_side Not on_path final steady allowed = tt
nonrobust_side Buff on_path final steady allowed = tt

-- and so with the sides of all steps
nonrobust_sides : (c : Circuit) (pair : Vectors) (line : ℕ) (steps : List PinRef) → SidesMeet c Robust pair line steps
    → SidesMeet c Nonrobust pair line steps
nonrobust_sides c pair line [] meet = tt
nonrobust_sides c pair line (step ∷ steps) meet = (
  λ pin side is.
      nonrobust_side (kind_at c step.gate.0) (value c pair.second line) (value c pair.second side.0) (is_steady c pair side.0)
      (meet.0 pin side is),
  nonrobust_sides c pair (gate_line c step.gate.0) steps meet.1,
)

-- a robust test is a nonrobust one
pub robust_is_nonrobust : (c : Circuit) (path : Route) (direction : Direction) (pair : Vectors)
    → Meets c (target_of path direction Robust) pair → Meets c (target_of path direction Nonrobust) pair
robust_is_nonrobust c path direction pair meets = record {
  launches = meets.launches;
  sides = nonrobust_sides c pair path.source.0 path.steps meets.sides;
}

-- so a test of either kind is a nonrobust one
pub test_is_nonrobust : (kind : Kind) (c : Circuit) (path : Route) (direction : Direction) (pair : Vectors)
    → Meets c (target_of path direction kind) pair → Meets c (target_of path direction Nonrobust) pair
test_is_nonrobust Robust c path direction pair meets = robust_is_nonrobust c path direction pair meets
test_is_nonrobust Nonrobust c path direction pair meets = meets

-- a side that the table allows for a nonrobust test and that shows its final value is held
settled_held : (kind : GateKind) (on_path shown final steady : Bool) → shown ≡ final
    → Allows (side_condition Nonrobust kind on_path) final steady → IsHeld kind on_path shown final
settled_held And true shown final steady settled allowed = allowed
settled_held And false shown final steady settled allowed = (settled ∙ allowed, allowed)
settled_held Nand true shown final steady settled allowed = allowed
settled_held Nand false shown final steady settled allowed = (settled ∙ allowed, allowed)
settled_held Or true shown final steady settled allowed = (settled ∙ allowed, allowed)
settled_held Or false shown final steady settled allowed = allowed
settled_held Nor true shown final steady settled allowed = (settled ∙ allowed, allowed)
settled_held Nor false shown final steady settled allowed = allowed
settled_held Xor on_path shown final steady settled allowed = settled
settled_held Xnor on_path shown final steady settled allowed = settled
settled_held Not on_path shown final steady settled allowed = tt
settled_held Buff on_path shown final steady settled allowed = tt

-- a delay of 0 leads back no time
back_none : (time : ℤ) → time -ℤ pos 0 ≡ time
back_none time = omega (arith, ints)

-- the sum of two delays leads back as the one after the other
back_both : (time : ℤ) (a b both : ℕ) → both ≡ a + b → time -ℤ pos both ≡ time -ℤ pos b -ℤ pos a
back_both time a b both e = omega (arith, ints)

-- what is earlier than a length lies before 0, read back by it
back_below : (time : ℤ) (length : ℕ) → time <ℤ pos length → (time -ℤ pos length) <ℤ pos 0
back_below time length before = omega (arith, ints)

module _ (c : Circuit) (pair : Vectors) (delays : Delays) where
  -- the line's wave has at this time the other value than the final one
  abbrev IsOther : ℕ → ℤ → Type 0
  IsOther line time = wave_of c pair delays line time ≡ not (value c pair.second line)

  module _ (is : IsCircuit c) where
    -- a line that has the other value a pin's delay earlier hands it on through a step whose sides have settled
    settled_step : (time : ℤ) (step : PinRef) (line : ℕ) → IsPinOn c step line
        → SidesAllowed c Nonrobust pair line step
        → AreSettledSides c pair delays time step → IsOther line (time -ℤ pos (delays step))
        → IsOther (gate_line c step.gate.0) time
    settled_step time step line on allowed settled other =
        let gate = step.gate.0 in
        let shown = λ (pin : ℕ) (side : LineId). wave_of c pair delays side.0 (time -ℤ pos (delays (pin_ref gate pin))) in
        wave_of_gate (delay_copy delays) c is pair gate on.in_circuit time
        ∙ step_differs c is pair step line on shown other
        (λ pin side at. settled_held (kind_at c gate) (value c pair.second line) _ _ (is_steady c pair side.0)
        (settled pin side at) (allowed pin side at))

    -- and through steps one behind another, where it has it earlier by their delays in all
    settled_along : (time : ℤ) (line : ℕ) (steps : List PinRef) → Connects c line steps
        → SidesMeet c Nonrobust pair line steps
        → AreSettled c pair delays time steps → IsOther line (time -ℤ pos (sum_by delays steps))
        → IsOther (line_after c line steps) time
    settled_along time line [] connects meet settled other = subst (IsOther line) (back_none time) other
    settled_along time line (step ∷ steps) connects meet settled other =
        let before = sum_by delays steps in
        let back = back_both time (delays step) before (sum_by delays (step ∷ steps)) (sum_by-cons delays step steps) in
        settled_along time (gate_line c step.gate.0) steps connects.1 meet.1 settled.1
        (settled_step (time -ℤ pos before) step line connects.0 meet.0 settled.0 (subst (IsOther line) back other))

  -- sides that have settled have also settled along the first steps, read back by the delays of the later ones
  settled_front : (time : ℤ) (steps rest : List PinRef) → AreSettled c pair delays time (steps ++ rest)
      → AreSettled c pair delays (time -ℤ pos (sum_by delays rest)) steps
  settled_front time [] rest settled = tt
  settled_front time (step ∷ steps) rest settled =
      let first = sum_by delays steps in
      let later = sum_by delays rest in
      let back = back_both time first later (sum_by delays (steps ++ rest)) (sum_by-append delays steps rest) in
      (subst (λ t. AreSettledSides c pair delays t step) back settled.0, settled_front time steps rest settled.1)

-- a time below the length of all steps, read back by the delays of the later ones, is below that of the first ones
late_front : (delays : Delays) (steps rest : List PinRef) (time : ℤ) → time <ℤ pos (sum_by delays (steps ++ rest))
    → (time -ℤ pos (sum_by delays rest)) <ℤ pos (sum_by delays steps)
late_front delays steps rest time late = omega (arith, ints, sum_by-append delays steps rest)

module _ (c : Circuit) (is : IsCircuit c) (path : Route) (direction : Direction) (pair : Vectors) where
  -- a nonrobust test shows the path late under every delay assignment under which it is late and its sides have settled
  pub nonrobust_detects : IsPrefix c path → Meets c (target_of path direction Nonrobust) pair → DetectsSettled c path pair
  nonrobust_detects prefix meets delays time late settled =
      let source = path.source.0 in
      let length = sum_by delays path.steps in
      let before = launched_before c pair direction source prefix.source meets.launches (delay_copy delays)
      (time -ℤ pos length) (back_below time length late) in
      never_both (wave_of c pair delays (end_of c path) time) (value c pair.second (end_of c path))
      (settled_along c pair delays is time source path.steps prefix.connects meets.sides settled before)

-- and then it shows each prefix wrong, read back from the time of sampling by the delays of the steps behind it
pub nonrobust_detects_along : (c : Circuit) → IsCircuit c → (path : Route) (direction : Direction) (pair : Vectors)
    → IsPrefix c path → Meets c (target_of path direction Nonrobust) pair → DetectsSettledAlong c path pair
nonrobust_detects_along c is path direction pair whole meets delays time late settled prefix of =
    nonrobust_detects c is prefix direction pair (prefix_is_prefix c prefix path of whole)
    (prefix_meets c prefix path of Nonrobust direction pair meets) delays (time -ℤ pos (sum_by delays of.rest))
    (late_front delays prefix.steps of.rest time (subst (λ steps. time <ℤ pos (sum_by delays steps)) (sym of.steps) late))
    (settled_front c pair delays time prefix.steps of.rest
    (subst (AreSettled c pair delays time) (sym of.steps) settled))
