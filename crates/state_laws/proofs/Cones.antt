-- Gates outside a set of gates that is closed under fan-in close nothing and change no label inside: labels at rest at the gates inside
-- are extended by what the gates outside make of them.
use Rattle.std.proofs.Common.{◌≡◌, ◌≢◌, ℕ, ◌-◌, ◌<◌, ◌≤◌, ◌^◌, ◌==◌, inl, inr, ⊎_elim, Bool, true, false, cond, List, [], ◌∷◌, ◌++◌, map, length, get_or, Option, Some, None, refl, sym, ap, ap₂, ◌∙◌, subst, arith}
use Rattle.std.specs.List.{All, range_with_len}
use Rattle.std.proofs.lemmas.Bool.{cases_Bool, cases_lt, cond-true, cond-false, ne_eqb, false≢true}
use Rattle.std.proofs.lemmas.List.Elements.{All-head, All-tail, All-pop, All-push, All-from_get_or}
use Rattle.std.proofs.lemmas.List.FromFn.{get_or-map-range_with_len, length-map-range_with_len}
use Rattle.pd_base.specs.Links.{LinkList, IsLink}
use Rattle.pd_base.specs.declared.ids.LineId.{LineId}
use Rattle.pd_base.specs.declared.ids.PinRef.{PinRef}
use Rattle.pd_base.specs.declared.fault.Kind.{Kind}
use Rattle.netlist.specs.Circuit.{Circuit, source_count, gate_count, line_count, gate_line, kind_at, pins_at}
use Rattle.netlist.specs.Evaluation.{value_of}
use Rattle.netlist.specs.Lawful.{ReadsLines, IsLoopFree, ReadsGate}
use Rattle.netlist.proofs.Evaluation.{map_agree, all_at_place, all_from_places, gate_line_of, line_induction, value_at_source, value_at_gate}
use Rattle.state_sets.specs.declared.state.State.{State}
use Rattle.state_sets.specs.declared.state.StateSet.{StateSet}
use Rattle.state_sets.specs.declared.condition.Condition.{Condition}
use Rattle.state_sets.specs.States.{Has, no_states}
use Rattle.state_sets.specs.StateAlgebra.{StateAlgebra, HasLaws}
use Rattle.state_sets.specs.Labellings.{label_at, IsLabelling, LiesIn}
use Rattle.state_sets.specs.Narrowing.{IsChoice, GateSets, IsNarrowing, GivesAtGate, GivesAtPin, gate_sets, gate_lines, gate_state}
use Rattle.state_sets.specs.Hulls.{IsNarrowingOf, IsAtRest, IsRestAmong, IsHull, HasNoEmptySet, condition_at}
use Rattle.state_sets.specs.Hulls.Narrowing.{at_gate, along_link}
use Rattle.state_laws.specs.Cones.{IsClosedBack, IsNarrowingIn, IsLineIn, IsPartOfHull}
use Rattle.state_laws.proofs.Choices.{some_choice, choice_with, choice_into}
use Rattle.state_laws.proofs.Hulls.{Widens, condition_of_more}
use Rattle.state_laws.proofs.Images.{image, image_has, has_image, image_within, has_some}
use Rattle.state_laws.proofs.Sets.{none_has, has_in_circuit, label_within}
use Rattle.state_laws.proofs.Linked.{none_linked}
use Rattle.state_laws.proofs.Steps.{rest_without_condition}

module _ (a : StateAlgebra) (c : Circuit) (gate : ℕ) (condition : Option Condition) (old new : List StateSet)
    (same : All (λ line. label_at new line.0 ≡ label_at old line.0) (gate_lines c gate)) where
  abbrev IsSame : LineId → Type 0
  IsSame line = label_at new line.0 ≡ label_at old line.0

  parts : All IsSame (pins_at c gate) × (label_at new (gate_line c gate) ≡ label_at old (gate_line c gate))
  parts = All-pop IsSame (gate_lines c gate) (pins_at c gate) (Some (record { 0 = gate_line c gate })) refl same

  sees_same : gate_sets c gate new ≡ gate_sets c gate old
  sees_same =
      ap₂ (λ (p : List StateSet) (o : StateSet). let s : GateSets = record { kind = kind_at c gate; pins = p; own = o } in s)
      (map_agree (λ (l : LineId). label_at new l.0) (λ (l : LineId). label_at old l.0) (pins_at c gate) parts.0) parts.1

  -- where the lines of a gate have the same sets, it rests at both labellings or at none
  pub same_rests : IsNarrowing a c gate condition old old → IsNarrowing a c gate condition new new
  same_rests rests = record {
    lines = refl;
    exactly = λ line state. (
      (λ has. record {
        had = has;
        at_gate = λ here.
            let e : label_at new line ≡ label_at old line = ap (label_at new) here ∙ parts.1 ∙ ap (label_at old) (sym here) in
            let kept = (rests.exactly line state).0 (subst (λ set. Has a.count set state) e has) in
            subst (λ s. GivesAtGate a s condition state) (sym sees_same) (kept.at_gate here);
        at_pins = λ pin reads.
            let e : label_at new line ≡ label_at old line = all_at_place IsSame (pins_at c gate) pin (record { 0 = line }) parts.0 reads in
            let kept = (rests.exactly line state).0 (subst (λ set. Has a.count set state) e has) in
            subst (λ s. GivesAtPin a s condition pin state) (sym sees_same) (kept.at_pins pin reads);
      }),
      λ kept. kept.had,
    );
  }

-- what holds of sources and of the lines of gates holds of all lines
by_line : (c : Circuit) (P : ℕ → Type 0) → ((line : ℕ) → line < source_count c → P line)
    → ((gate : ℕ) → gate < gate_count c → P (gate_line c gate)) → (line : ℕ) → line < line_count c → P line
by_line c P sources gates line within =
    ⊎_elim (sources line)
    (λ (above : source_count c ≤ line).
    subst P (gate_line_of c line above) (gates (line - source_count c) (omega arith)))
    (cases_lt line (source_count c))

-- a pin of a gate inside reads a source or a line inside
pub pins_inside : (c : Circuit) (inside : ℕ → Bool) → ReadsLines c → IsClosedBack c inside → (gate : ℕ) → gate < gate_count c → inside gate ≡ true → All (λ pin. IsLineIn c inside pin.0) (pins_at c gate)
pins_inside c inside reads closed gate within e = all_from_places (λ (pin : LineId). IsLineIn c inside pin.0) (pins_at c gate)
    (λ i pin reads_pin. ⊎_elim (λ (source : pin.0 < source_count c). inl source)
    (λ (above : source_count c ≤ pin.0).
    let in_circuit : pin.0 < line_count c =
    all_at_place (λ (l : LineId). l.0 < line_count c) (pins_at c gate) i pin (reads gate within) reads_pin in
    let other = pin.0 - source_count c in
    let reads_gate : ReadsGate c gate other =
    (i, reads_pin ∙ ap (λ (line : ℕ). Some (record { 0 = line })) (sym (gate_line_of c pin.0 above))) in
    inr (other, omega arith, closed gate other within e reads_gate, sym (gate_line_of c pin.0 above)))
    (cases_lt pin.0 (source_count c)))

-- no condition stands at a gate that no step goes through
pub none_at : (kind : Kind) (inside : ℕ → Bool) (gate : ℕ) → inside gate ≡ false → (steps : List PinRef)
    → All (λ step. inside step.gate.0 ≡ true) steps → condition_at kind steps gate ≡ None
none_at kind inside gate outside [] through = refl
none_at kind inside gate outside (step ∷ steps) through =
    let P : PinRef → Type 0 = λ s. inside s.gate.0 ≡ true in
    let other : step.gate.0 ≢ gate = λ same. false≢true (sym outside ∙ sym (ap inside same) ∙ All-head P step steps through) in
    let e : (step.gate.0 == gate) ≡ false = ne_eqb step.gate.0 gate other in
    rw e (none_at kind inside gate outside steps (All-tail P step steps through))

module _ (a : StateAlgebra) (c : Circuit) (inside : ℕ → Bool) (links : LinkList) (kind : Kind) (steps : List PinRef) (May : ℕ → State → Type 0) where
  -- labels at rest at all gates are at rest at those inside
  pub rest_inside : (labels : List StateSet) → IsRestAmong a c (IsNarrowingOf c links kind steps) May labels
      → IsRestAmong a c (IsNarrowingIn c inside links kind steps) May labels
  rest_inside labels is = record { labelling = is.labelling; rest = rests; among = is.among }
    where
      rests : IsAtRest a c (IsNarrowingIn c inside links kind steps) labels
      rests (at_gate gate condition) of = is.rest (at_gate gate condition) (of.0, of.2)
      rests (along_link source line) of = is.rest (along_link source line) of

  module _ (unlinked : links ≡ []) (laws : HasLaws a) (reads : ReadsLines c) (loop_free : IsLoopFree c) (closed : IsClosedBack c inside)
      (through : All (λ step. inside step.gate.0 ≡ true) steps)
      (free : (gate : ℕ) → gate < gate_count c → inside gate ≡ false → (state : State) → state.0 < a.count → May (gate_line c gate) state)
      (labels : List StateSet) (is : IsHull a c (IsNarrowingIn c inside links kind steps) May labels)
      (some : (line : ℕ) → IsLineIn c inside line → label_at labels line ≢ no_states) where
    abbrev extend : ℕ → List StateSet → StateSet
    extend gate sets = cond (inside gate) (label_at labels (gate_line c gate)) (image a laws (kind_at c gate) sets)

    abbrev whole_at : ℕ → StateSet
    whole_at line = value_of c (label_at labels) extend line

    -- the labels inside, and outside what the gates make of them
    abbrev pub whole : List StateSet
    whole = map whole_at (range_with_len 0 (line_count c))

    label_whole : (line : ℕ) → line < line_count c → label_at whole line ≡ whole_at line
    label_whole line within = get_or-map-range_with_len whole_at 0 (line_count c) line line no_states within (omega arith)

    at_source : (line : ℕ) → line < source_count c → label_at whole line ≡ label_at labels line
    at_source line source = label_whole line (omega arith) ∙ value_at_source c (label_at labels) extend line source

    abbrev pins_of : ℕ → List StateSet
    pins_of gate = map (λ pin. label_at whole pin.0) (pins_at c gate)

    at_gate_line : (gate : ℕ) → gate < gate_count c → label_at whole (gate_line c gate) ≡ extend gate (pins_of gate)
    at_gate_line gate within =
        label_whole (gate_line c gate) (omega arith)
        ∙ value_at_gate c (label_at labels) extend reads loop_free gate within
        ∙ ap (extend gate) (map_agree (λ (pin : LineId). whole_at pin.0) (λ (pin : LineId). label_at whole pin.0) (pins_at c gate)
        (λ i d in_pins. sym (label_whole (get_or (pins_at c gate) i d).0 (reads gate within i d in_pins))))

    at_inside : (gate : ℕ) → gate < gate_count c → inside gate ≡ true
        → label_at whole (gate_line c gate) ≡ label_at labels (gate_line c gate)
    at_inside gate within e = at_gate_line gate within ∙ cond-true (inside gate) _ _ e

    at_outside : (gate : ℕ) → gate < gate_count c → inside gate ≡ false
        → label_at whole (gate_line c gate) ≡ image a laws (kind_at c gate) (pins_of gate)
    at_outside gate within e = at_gate_line gate within ∙ cond-false (inside gate) _ _ e

    -- nothing changes inside
    pub whole_same : (line : ℕ) → IsLineIn c inside line → label_at whole line ≡ label_at labels line
    whole_same line of = ⊎_elim (at_source line)
        (λ (gate : (g : ℕ) × (g < gate_count c) × (inside g ≡ true) × (line ≡ gate_line c g)).
        ap (label_at whole) gate.3 ∙ at_inside gate.0 gate.1 gate.2 ∙ ap (label_at labels) (sym gate.3)) of

    labels_within : (line : ℕ) → (label_at labels line).0 < 2 ^ a.count
    labels_within line = label_within a.count c labels is.rest.labelling line

    whole_within : (line : ℕ) → line < line_count c → (label_at whole line).0 < 2 ^ a.count
    whole_within =
        let P : StateSet → Type 0 = λ set. set.0 < 2 ^ a.count in
        by_line c (λ line. (label_at whole line).0 < 2 ^ a.count)
        (λ line source. subst P (sym (at_source line source)) (labels_within line))
        (λ gate within. ⊎_elim
        (λ (e : inside gate ≡ true). subst P (sym (at_inside gate within e)) (labels_within (gate_line c gate)))
        (λ (e : inside gate ≡ false). subst P (sym (at_outside gate within e)) (image_within a laws (kind_at c gate) (pins_of gate)))
        (cases_Bool (inside gate)))

    whole_length : length whole ≡ line_count c
    whole_length = length-map-range_with_len whole_at 0 (line_count c)

    labelling : IsLabelling a.count c whole
    labelling = record {
      one_each = whole_length;
      within = All-from_get_or (λ (set : StateSet). set.0 < 2 ^ a.count) whole no_states
          (λ line in_whole. whole_within line (omega (arith, whole_length)));
    }

    abbrev HasState : ℕ → Type 0
    HasState line = (state : State) × Has a.count (label_at whole line) state

    label_has : (line : ℕ) → IsLineIn c inside line → (state : State) × Has a.count (label_at labels line) state
    label_has line of = has_some a.count (label_at labels line) (labels_within line) (some line of)

    pub made : (gate : ℕ) → gate < gate_count c → inside gate ≡ false → (choice : List State) → IsChoice a.count (pins_of gate) choice
        → Has a.count (label_at whole (gate_line c gate)) (gate_state a (kind_at c gate) choice)
    made gate within e choice each =
        subst (λ set. Has a.count set (gate_state a (kind_at c gate) choice)) (sym (at_outside gate within e))
        (has_image a laws (kind_at c gate) (pins_of gate) each)

    whole_has : (line : ℕ) → line < line_count c → HasState line
    whole_has =
        let Q : StateSet → Type 0 = λ set. (state : State) × Has a.count set state in
        line_induction c reads HasState
        (λ line source. subst Q (sym (at_source line source)) (label_has line (inl source)))
        (λ gate within pins. ⊎_elim
        (λ (e : inside gate ≡ true). subst Q (sym (at_inside gate within e)) (label_has (gate_line c gate) (inr (gate, within, e, refl))))
        (λ (e : inside gate ≡ false).
        let choice = some_choice a.count (label_at whole) (pins_at c gate) pins in
        (gate_state a (kind_at c gate) choice.0, made gate within e choice.0 choice.1))
        (cases_Bool (inside gate)))
        loop_free

    -- each line has some state
    pub whole_some : HasNoEmptySet c whole
    whole_some line within = let has = whole_has line within in λ none. none_has a.count has.0 (subst (λ set. Has a.count set has.0) none has.1)

    pins_some : (gate : ℕ) → gate < gate_count c → All (λ pin. HasState pin.0) (pins_at c gate)
    pins_some gate within i d in_pins = whole_has (get_or (pins_at c gate) i d).0 (reads gate within i d in_pins)

    -- a gate outside rests
    outside_rests : (gate : ℕ) → gate < gate_count c → inside gate ≡ false → IsNarrowing a c gate None whole whole
    outside_rests gate within e = record {
      lines = refl;
      exactly = λ line state. (
        (λ has. record {
          had = has;
          at_gate = λ here.
              let own : Has a.count (label_at whole (gate_line c gate)) state = subst (λ l. Has a.count (label_at whole l) state) here has in
              let makes = image_has a laws (kind_at c gate) (pins_of gate) state
              (subst (λ set. Has a.count set state) (at_outside gate within e) own) in
              record {
                choice = makes.choice;
                allowed = record {
                  at_pins = makes.each;
                  at_gate = made gate within e makes.choice makes.each;
                  meets = tt;
                };
                gives = makes.makes;
              };
          at_pins = λ pin reads_pin.
              let with = choice_with a.count (label_at whole) (pins_at c gate) (pins_some gate within) pin (record { 0 = line }) reads_pin
              state has in
              record {
                choice = with.0;
                allowed = record {
                  at_pins = with.1;
                  at_gate = made gate within e with.0 with.1;
                  meets = tt;
                };
                gives = with.2;
              };
        }),
        λ kept. kept.had,
      );
    }

    lines_same : (gate : ℕ) → gate < gate_count c → inside gate ≡ true
        → All (λ line. label_at whole line.0 ≡ label_at labels line.0) (gate_lines c gate)
    lines_same gate within e =
        All-push (λ (line : LineId). label_at whole line.0 ≡ label_at labels line.0)
        (pins_at c gate) (record { 0 = gate_line c gate })
        (λ i d in_pins. whole_same (get_or (pins_at c gate) i d).0 (pins_inside c inside reads closed gate within e i d in_pins))
        (at_inside gate within e)

    whole_rests : IsAtRest a c (IsNarrowingOf c links kind steps) whole
    whole_rests (at_gate gate condition) of = ⊎_elim
        (λ (e : inside gate ≡ true).
        subst (λ k. IsNarrowing a c gate k whole whole) (sym of.1)
        (same_rests a c gate (condition_at kind steps gate) labels whole (lines_same gate of.0 e)
        (is.rest.rest (at_gate gate (condition_at kind steps gate)) (of.0, e, refl))))
        (λ (e : inside gate ≡ false).
        subst (λ k. IsNarrowing a c gate k whole whole) (sym (of.1 ∙ none_at kind inside gate e steps through))
        (outside_rests gate of.0 e))
        (cases_Bool (inside gate))
    whole_rests (along_link source line) of = absurd (none_linked source line (subst (λ (l : LinkList). IsLink l source line) unlinked of))

    may_in : (line : ℕ) → line < line_count c → (state : State) → Has a.count (label_at whole line) state → May line state
    may_in = by_line c (λ line. (state : State) → Has a.count (label_at whole line) state → May line state)
        (λ line source state has. is.rest.among line state (subst (λ set. Has a.count set state) (at_source line source) has))
        (λ gate within state has. ⊎_elim
        (λ (e : inside gate ≡ true).
        is.rest.among (gate_line c gate) state (subst (λ set. Has a.count set state) (at_inside gate within e) has))
        (λ (e : inside gate ≡ false). free gate within e state has.in_range)
        (cases_Bool (inside gate)))

    whole_among : IsRestAmong a c (IsNarrowingOf c links kind steps) May whole
    whole_among = record {
      labelling = labelling;
      rest = whole_rests;
      among = λ line state has. may_in line (has_in_circuit a.count c whole labelling line state has) state has;
    }

    module _ (other : List StateSet) (among : IsRestAmong a c (IsNarrowingOf c links kind steps) May other) where
      other_inside : LiesIn a.count other labels
      other_inside = is.greatest other (rest_inside other among)

      other_lies : (line : ℕ) → line < line_count c → (state : State) → Has a.count (label_at other line) state
          → Has a.count (label_at whole line) state
      other_lies = line_induction c reads
          (λ line. (state : State) → Has a.count (label_at other line) state → Has a.count (label_at whole line) state)
          (λ line source state has. subst (λ set. Has a.count set state) (sym (at_source line source)) (other_inside line state has))
          (λ gate within pins state has. ⊎_elim
          (λ (e : inside gate ≡ true).
          subst (λ set. Has a.count set state) (sym (at_inside gate within e)) (other_inside (gate_line c gate) state has))
          (λ (e : inside gate ≡ false).
          let rests = among.rest (at_gate gate None) (within, sym (none_at kind inside gate e steps through)) in
          let gives = ((rests.exactly (gate_line c gate) state).0 has).at_gate refl in
          let each = choice_into a.count (label_at other) (label_at whole) (pins_at c gate) pins gives.allowed.at_pins in
          subst (Has a.count (label_at whole (gate_line c gate))) gives.gives (made gate within e gives.choice each))
          (cases_Bool (inside gate)))
          loop_free

    -- and these labels are the hull of all narrowings
    pub whole_hull : IsHull a c (IsNarrowingOf c links kind steps) May whole
    whole_hull = record {
      rest = whole_among;
      greatest = λ other among line state has.
          other_lies other among line (has_in_circuit a.count c other among.labelling line state has) state has;
    }

    -- in which no line has a state that it has not here
    pub whole_lies : LiesIn a.count whole labels
    whole_lies = is.greatest whole (rest_inside whole whole_among)

-- a line inside is one of the circuit
line_in : (c : Circuit) (inside : ℕ → Bool) (line : ℕ) → IsLineIn c inside line → line < line_count c
line_in c inside line of = ⊎_elim (λ (source : line < source_count c). omega arith)
    (λ (gate : (g : ℕ) × (g < gate_count c) × (inside g ≡ true) × (line ≡ gate_line c g)). omega (arith, gate.1, gate.3)) of

-- The law of cones: where the gates inside are closed under fan-in, all steps go through them, and lines of gates may be in every state,
-- labels that are the hull of the narrowings inside, each line with some state, are part of the hull of the whole circuit.
pub part_of_hull : (a : StateAlgebra) (c : Circuit) → HasLaws a → ReadsLines c → IsLoopFree c → (inside : ℕ → Bool) → IsClosedBack c inside
    → (links : LinkList) → links ≡ [] → (kind : Kind) (steps : List PinRef) → All (λ step. inside step.gate.0 ≡ true) steps → (May : ℕ → State → Type 0)
    → ((gate : ℕ) → gate < gate_count c → (state : State) → state.0 < a.count → May (gate_line c gate) state)
    → (labels : List StateSet) → IsHull a c (IsNarrowingIn c inside links kind steps) May labels → HasNoEmptySet c labels
    → IsPartOfHull a c (IsLineIn c inside) links kind steps May labels
part_of_hull a c laws reads loop_free inside closed links unlinked kind steps through May free labels is some = record {
  whole = whole a c inside links kind steps May unlinked laws reads loop_free closed through free_outside labels is some_inside;
  hull = whole_hull a c inside links kind steps May unlinked laws reads loop_free closed through free_outside labels is some_inside;
  none_empty = whole_some a c inside links kind steps May unlinked laws reads loop_free closed through free_outside labels is some_inside;
  same = whole_same a c inside links kind steps May unlinked laws reads loop_free closed through free_outside labels is some_inside;
  lies = whole_lies a c inside links kind steps May unlinked laws reads loop_free closed through free_outside labels is some_inside;
}
  where
    free_outside : (gate : ℕ) → gate < gate_count c → inside gate ≡ false → (state : State) → state.0 < a.count → May (gate_line c gate) state
    free_outside gate within outside = free gate within

    some_inside : (line : ℕ) → IsLineIn c inside line → label_at labels line ≢ no_states
    some_inside line of = some line (line_in c inside line of)

-- fewer steps are wider inside too
pub widens_by_steps_in : (a : StateAlgebra) (c : Circuit) (inside : ℕ → Bool) (links : LinkList) (kind : Kind) (steps more : List PinRef) (May : ℕ → State → Type 0)
    → Widens a c (IsNarrowingIn c inside links kind (steps ++ more)) May (IsNarrowingIn c inside links kind steps) May
widens_by_steps_in a c inside links kind steps more May labels is = record { labelling = is.labelling; rest = rests; among = is.among }
  where
    rests : IsAtRest a c (IsNarrowingIn c inside links kind steps) labels
    rests (along_link source line) of = is.rest (along_link source line) of
    rests (at_gate gate condition) of =
        let all : IsNarrowing a c gate (condition_at kind (steps ++ more) gate) labels labels =
        is.rest (at_gate gate (condition_at kind (steps ++ more) gate)) (of.0, of.1, refl) in
        let P : Option Condition → Type 0 = λ o. IsNarrowing a c gate o labels labels in
        ⊎_elim
        (λ (same : condition_at kind steps gate ≡ condition_at kind (steps ++ more) gate). subst P (sym (of.2 ∙ same)) all)
        (λ (free : condition_at kind steps gate ≡ None).
        subst P (sym (of.2 ∙ free)) (rest_without_condition a c gate (condition_at kind (steps ++ more) gate) labels all))
        (condition_of_more kind steps more gate)
