-- Steadying a pair of vectors loses no test: where a pair meets the conditions of a target, so does the pair whose first vector is its
-- second at every source but the target's own. Final values and the launch are the same, and what was steady stays so.
use Rattle.std.proofs.Common.{◌≡◌, ◌≢◌, ℕ, ◌<◌, ◌==◌, Bool, true, false, Some, None, List, [], ◌∷◌, if◌then◌else◌, IsTrue, refl, sym, ap, ◌∙◌, subst, arith, eq-eqb}
use Rattle.std.proofs.lemmas.Bool.{cond-true, cond-false, ne_eqb}
use Rattle.std.proofs.lemmas.List.FromFn.{get_or-map-range_with_len}
use Rattle.pd_base.specs.Pair.{Vectors}
use Rattle.pd_base.specs.Target.{Target}
use Rattle.pd_base.specs.declared.ids.LineId.{LineId}
use Rattle.pd_base.specs.declared.ids.PinRef.{PinRef}
use Rattle.pd_base.specs.declared.fault.Kind.{Kind}
use Rattle.pd_base.specs.declared.rules.Rules.{Rules}
use Rattle.pd_base.specs.declared.rules.Rules.TheVariants.{One, Two, Linked}
use Rattle.netlist.specs.declared.side_conditions.SideCondition.{SideCondition}
use Rattle.netlist.specs.declared.side_conditions.SideCondition.TheVariants.{Free, EndsAt, SteadyAt, AnySteady}
use Rattle.netlist.specs.Circuit.{Circuit, source_count, line_count, gate_line, kind_at, pins_at}
use Rattle.netlist.specs.Lawful.{IsCircuit}
use Rattle.netlist.specs.Paths.{Connects, IsPrefix}
use Rattle.netlist.specs.Values.{bit_of, value}
use Rattle.netlist.specs.Steadiness.{agreed_bit, is_known_as, is_steady}
use Rattle.netlist.specs.Conditions.{Allows, Meets, SidesMeet, side_condition}
use Rattle.netlist.proofs.Evaluation.{all_at_place}
use Rattle.state_sets.specs.StateAlgebra.{StateAlgebra, HasLaws, same_bit}
use Rattle.state_laws.specs.Steadied.{KeepsRules, steadied}
use Rattle.state_laws.proofs.SourceStates.{source_steady, steady_under}
use Rattle.state_laws.proofs.Knowing.{StaysKnown, steady_stays}

-- a bit on which two vectors agree stays, where the first vector keeps its bit or gets that of the second
agreed_stays : (own first second : Bool)
    → StaysKnown (if is_known_as first (Some second) then Some second else None)
    (if is_known_as (if own then first else second) (Some second) then Some second else None)
agreed_stays true true true = refl
agreed_stays true true false = tt
agreed_stays true false true = tt
agreed_stays true false false = refl
agreed_stays false true true = refl
agreed_stays false true false = tt
agreed_stays false false true = tt
agreed_stays false false false = refl

-- a condition that allows a side pin allows it where more is steady
allowed_stays : (condition : SideCondition) (final steady now : Bool) → (IsTrue steady → IsTrue now) → Allows condition final steady
    → Allows condition final now
allowed_stays Free final steady now stays allowed = tt
allowed_stays (EndsAt bit) final steady now stays allowed = allowed
allowed_stays (SteadyAt bit) final steady now stays allowed = (allowed.0, stays allowed.1)
allowed_stays AnySteady final steady now stays allowed = stays allowed

same_as_itself : (bit : Bool) → same_bit bit bit ≡ true
same_as_itself true = refl
same_as_itself false = refl

module _ (c : Circuit) (source : ℕ) (pair : Vectors) where
  abbrev now : Vectors
  now = steadied c source pair

  -- the first bit of a source
  first_bit : (other : ℕ) → other < source_count c
      → bit_of now.first other ≡ (if other == source then bit_of pair.first other else bit_of pair.second other)
  first_bit other within =
      get_or-map-range_with_len (λ o. if o == source then bit_of pair.first o else bit_of pair.second o) 0 (source_count c)
      other other false within (omega arith)

  pub first_of_own : source < source_count c → bit_of now.first source ≡ bit_of pair.first source
  first_of_own within = first_bit source within ∙ cond-true (source == source) _ _ (eq-eqb source source refl)

  pub first_of_other : (other : ℕ) → other < source_count c → other ≢ source → bit_of now.first other ≡ bit_of pair.second other
  first_of_other other within apart = first_bit other within ∙ cond-false (other == source) _ _ (ne_eqb other source apart)

  agreed_bit_stays : (other : ℕ) → other < source_count c → StaysKnown (agreed_bit pair other) (agreed_bit now other)
  agreed_bit_stays other within =
      let second = bit_of pair.second other in
      let P : Bool → Type 0 = λ first. StaysKnown (agreed_bit pair other)
      (if is_known_as first (Some second) then Some second else None) in
      subst P (sym (first_bit other within)) (agreed_stays (other == source) (bit_of pair.first other) second)

  -- the other sources start as any rules leave them
  pub steadied_keeps : (a : StateAlgebra) (laws : HasLaws a) (rules : Rules) → KeepsRules a c rules source now
  steadied_keeps a laws One other within apart = tt
  steadied_keeps a laws (Linked links) other within apart = tt
  steadied_keeps a laws Two other within apart =
      steady_under a laws c now other ∙ source_steady a laws c now other within
      ∙ ap (λ (first : Bool). same_bit first (bit_of pair.second other)) (first_of_other other within apart)
      ∙ same_as_itself (bit_of pair.second other)

  module _ (circuit : IsCircuit c) where
    -- the sides of steps meet their conditions as before
    sides_stay : (kind : Kind) (line : ℕ) (steps : List PinRef) → Connects c line steps → SidesMeet c kind pair line steps
        → SidesMeet c kind now line steps
    sides_stay kind line [] connects meet = tt
    sides_stay kind line (step ∷ steps) connects meet = (
      λ pin side is.
          let within : side.0 < line_count c =
          all_at_place (λ (read : LineId). read.0 < line_count c) (pins_at c step.gate.0) pin side
          (circuit.reads_lines step.gate.0 connects.0.in_circuit) is.reads in
          allowed_stays (side_condition kind (kind_at c step.gate.0) (value c pair.second line)) (value c pair.second side.0)
          (is_steady c pair side.0) (is_steady c now side.0) (steady_stays c circuit pair now agreed_bit_stays side.0 within)
          (meet.0 pin side is),
      sides_stay kind (gate_line c step.gate.0) steps connects.1 meet.1,
    )

-- steadying at the other sources loses no test
pub steadied_meets : (c : Circuit) → IsCircuit c → (target : Target) → IsPrefix c target.path → (pair : Vectors) → Meets c target pair
    → Meets c target (steadied c target.path.source.0 pair)
steadied_meets c circuit target is pair meets = record {
  launches = record {
    first = first_of_own c target.path.source.0 pair is.source ∙ meets.launches.first;
    second = meets.launches.second;
  };
  sides = sides_stay c target.path.source.0 pair circuit target.kind target.path.source.0 target.path.steps is.connects meets.sides;
}
