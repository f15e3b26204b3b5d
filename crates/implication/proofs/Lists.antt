-- The lists of assumptions that scopes make: how they grow, are cut, and that there is room for each.
use Rattle.std.proofs.Common.{◌≡◌, ◌≢◌, ℕ, ◌<◌, ◌≤◌, List, [], ◌∷◌, ◌++◌, length, take, bit_and, All, Option, sym, ap, ◌∙◌, subst, arith}
use Rattle.std.specs.Int.Bits.{and_self}
use Rattle.std.proofs.lemmas.Nat.{and_assoc}
use Rattle.std.proofs.lemmas.List.{append-nil}
use Rattle.std.proofs.lemmas.List.Elements.{All-nil, All-cons, All-head, All-tail, All-push, All-take}
use Rattle.pd_base.specs.Links.{LinkList}
use Rattle.pd_base.specs.declared.ids.LineId.{LineId}
use Rattle.pd_base.specs.declared.ids.PinRef.{PinRef}
use Rattle.netlist.specs.Circuit.{Circuit, source_count, line_count, gate_line}
use Rattle.netlist.specs.Lawful.{IsCircuit}
use Rattle.netlist.specs.Pins.{IsPinOn}
use Rattle.netlist.specs.Paths.{Connects, line_after}
use Rattle.path_laws.proofs.StepCounts.{steps_within_levels}
use Rattle.state_sets.specs.declared.state.StateSet.{StateSet}
use Rattle.implication.specs.declared.assumption.Beginning.{Beginning}
use Rattle.implication.specs.declared.assumption.Assumption.{Assumption}
use Rattle.implication.specs.declared.assumption.Assumption.TheVariants.{Entered, Assumed}
use Rattle.implication.specs.Assumptions.{entered_pins, left_of, end_under}
use Rattle.implication.specs.Standing.{ToldEnds, IsToldBy}
use Rattle.implication.specs.Kept.{AreAssumptions, IsToldEntry, AreToldEntries, most_assumptions}
use Rattle.implication.proofs.Entering.{entered_append, connects_more, connects_taken}
use Rattle.implication.proofs.Shrinking.{shrink_taken, shrink_more, sets_within_weight, weight_most, entries_counted}

-- the set of a number
abbrev set_of : ℕ → StateSet
set_of n = record { 0 = n }

module _ (count : ℕ) (c : Circuit) (begun : Beginning) where
  -- no assumptions
  pub list_empty : begun.source.0 < source_count c → AreAssumptions count c begun []
  list_empty within = record { source = within; connects = tt; shrink = tt }

  module _ (list : List Assumption) (are : AreAssumptions count c begun list) where
    -- the first of them
    pub list_taken : (mark : ℕ) → AreAssumptions count c begun (take mark list)
    list_taken mark = record {
      source = are.source;
      connects = connects_taken c begun.source.0 mark list are.connects;
      shrink = shrink_taken count (line_count c) mark [] list are.shrink;
    }

    -- a pin on the last line more
    pub list_with_pin : (pin : PinRef) → IsPinOn c pin (end_under c begun list)
        → AreAssumptions count c begun (list ++ Entered pin ∷ [])
    list_with_pin pin on = record {
      source = are.source;
      connects = let P : List PinRef → Type 0 = λ steps. Connects c begun.source.0 steps in
          subst P (sym (entered_append list (Entered pin ∷ [])))
          (connects_more c begun.source.0 (entered_pins list) pin are.connects on);
      shrink = shrink_more count (line_count c) [] list (Entered pin) are.shrink tt;
    }

    -- a set more, which takes some state of its line away
    pub list_with_set : (line : LineId) (to cut : StateSet) → line.0 < line_count c
        → cut.0 ≡ bit_and (left_of count line list).0 to.0 → (left_of count line list).0 ≢ cut.0
        → AreAssumptions count c begun (list ++ Assumed line cut ∷ [])
    list_with_set line to cut within is fewer = record {
      source = are.source;
      connects = let P : List PinRef → Type 0 = λ steps. Connects c begun.source.0 steps in
          subst P (sym (entered_append list (Assumed line cut ∷ []) ∙ append-nil (entered_pins list))) are.connects;
      shrink = shrink_more count (line_count c) [] list (Assumed line cut) are.shrink (record {
        in_circuit = within;
        inside = let left = left_of count line list in
            let e : bit_and left.0 cut.0 ≡ cut.0 =
            ap (bit_and left.0) is ∙ sym (and_assoc to.0 left.0 left.0) ∙ ap (λ n. bit_and n to.0) (and_self left.0) ∙ sym is in
            ap set_of e;
        fewer = fewer;
      });
    }

    -- there is room for them
    pub list_fits : IsCircuit c → length list ≤ most_assumptions count c
    list_fits circuit =
        let within : begun.source.0 < line_count c = omega (arith, are.source) in
        omega (
          arith,
          entries_counted list,
          steps_within_levels c circuit begun.source.0 (entered_pins list) within are.connects,
          sets_within_weight count (line_count c) [] list are.shrink,
          weight_most count (line_count c) [],
        )

module _ (c : Circuit) (links : LinkList) (ends : Option ToldEnds) where
  abbrev IsToldPin : PinRef → Type 0
  IsToldPin pin = IsToldBy c links ends (gate_line c pin.gate.0)

  -- the first entries are told
  pub told_taken : (list : List Assumption) (mark : ℕ) → AreToldEntries c links ends list → AreToldEntries c links ends (take mark list)
  told_taken list mark told = All-take (IsToldEntry c links ends) mark list told

  -- and with them one more
  pub told_with : (list : List Assumption) (entry : Assumption) → AreToldEntries c links ends list → IsToldEntry c links ends entry
      → AreToldEntries c links ends (list ++ entry ∷ [])
  told_with list entry told also = All-push (IsToldEntry c links ends) list entry told also

  -- then the pins that were entered are
  pub told_pins : (list : List Assumption) → AreToldEntries c links ends list → All IsToldPin (entered_pins list)
  told_pins [] told = All-nil IsToldPin
  told_pins (Entered pin ∷ list) told =
      All-cons IsToldPin pin (entered_pins list) (All-head (IsToldEntry c links ends) (Entered pin) list told)
      (told_pins list (All-tail (IsToldEntry c links ends) (Entered pin) list told))
  told_pins (Assumed line set ∷ list) told = told_pins list (All-tail (IsToldEntry c links ends) (Assumed line set) list told)

  -- so is the last line of a prefix whose gates are told
  told_after : (line : ℕ) (steps : List PinRef) → IsToldBy c links ends line → All IsToldPin steps → IsToldBy c links ends (line_after c line steps)
  told_after line [] here told = here
  told_after line (step ∷ steps) here told =
      told_after (gate_line c step.gate.0) steps (All-head IsToldPin step steps told) (All-tail IsToldPin step steps told)

  pub told_end : (begun : Beginning) (list : List Assumption) → IsToldBy c links ends begun.source.0 → AreToldEntries c links ends list
      → IsToldBy c links ends (end_under c begun list)
  told_end begun list source told = told_after begun.source.0 (entered_pins list) source (told_pins list told)
