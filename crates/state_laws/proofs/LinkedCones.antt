-- The law of cones under links: gates and links outside a set of lines, that is closed under fan-in and links, close nothing and change no
-- label inside. Labels at rest inside are extended by what the gates outside make of their pins' sets, and by what links outside leave
-- sources of the states of a source. Since there may be cycles through links and gates, the extension is the greatest solution.
use Rattle.std.proofs.Common.{◌≡◌, ◌≢◌, ℕ, ◌-◌, ◌<◌, ◌≤◌, ◌^◌, inl, inr, ⊎_elim, Bool, true, false, cond, nat_lt, List, map, length, get_or, Option, Some, None, refl, sym, ap, ◌∙◌, subst, arith}
use Rattle.std.specs.List.{All, range_with_len}
use Rattle.std.proofs.lemmas.Bool.{cases_Bool, cases_lt, cond-true, cond-false, lt-ltb, le-ltb}
use Rattle.std.proofs.lemmas.List.Elements.{All-push, All-from_get_or}
use Rattle.std.proofs.lemmas.List.FromFn.{get_or-map-range_with_len, length-map-range_with_len}
use Rattle.pd_base.specs.Links.{LinkList, IsLink}
use Rattle.pd_base.specs.declared.ids.LineId.{LineId}
use Rattle.pd_base.specs.declared.ids.PinRef.{PinRef}
use Rattle.pd_base.specs.declared.fault.Kind.{Kind}
use Rattle.netlist.specs.Circuit.{Circuit, source_count, gate_count, line_count, gate_line, kind_at, pins_at}
use Rattle.netlist.specs.Lawful.{ReadsLines}
use Rattle.netlist.specs.LinkedPairs.{AreLinksOf}
use Rattle.netlist.proofs.Evaluation.{map_agree, gate_line_of}
use Rattle.state_sets.specs.declared.state.State.{State}
use Rattle.state_sets.specs.declared.state.StateSet.{StateSet}
use Rattle.state_sets.specs.States.{Has, no_states, all_states}
use Rattle.state_sets.specs.StateAlgebra.{StateAlgebra, HasLaws}
use Rattle.state_sets.specs.Labellings.{label_at, IsLabelling}
use Rattle.state_sets.specs.Narrowing.{IsChoice, IsNarrowing, IsLinkNarrowing, gate_state}
use Rattle.state_sets.specs.Hulls.{IsNarrowingOf, IsAtRest, IsRestAmong, IsHull, IsEmptied, HasNoEmptySet, condition_at}
use Rattle.state_sets.specs.Hulls.Narrowing.{at_gate, along_link}
use Rattle.state_laws.specs.Cones.{IsNarrowingIn, IsLineWithin, IsClosedUnder, AreFreeOutside, IsPartOfHull}
use Rattle.state_laws.proofs.Choices.{some_choice, choice_with, choice_into}
use Rattle.state_laws.proofs.Cones.{same_rests, none_at}
use Rattle.state_laws.proofs.Images.{image, image_has, has_image, image_within, has_some}
use Rattle.state_laws.proofs.Hulls.{emptied_if_wider}
use Rattle.state_laws.proofs.Linked.{linked_source, linked_line}
use Rattle.state_laws.proofs.LinkedSets.{linked_set, linked_has, has_linked, linked_within, some_linked, linked_once}
use Rattle.state_laws.proofs.OuterLinks.{option_cases, outer_line, outer_is, inner_of, not_outer}
use Rattle.state_laws.proofs.Sets.{none_has, all_have, has_in_circuit, label_within}
use Rattle.state_laws.proofs.Solutions.{SetOf, LiesBelow, IsSolved, solved}

-- where the two lines of a link have the same sets, it rests at both labellings or at none
pub same_link_rests : (a : StateAlgebra) (source line : ℕ) (old new : List StateSet) → label_at new source ≡ label_at old source
    → label_at new line ≡ label_at old line → IsLinkNarrowing a source line old old → IsLinkNarrowing a source line new new
same_link_rests a source line old new at_source at_line rests = record {
  lines = refl;
  exactly = λ at state. (
    (λ has. record {
      had = has;
      at_source = λ here.
          let there = subst (λ set. Has a.count set state) at_source (subst (λ l. Has a.count (label_at new l) state) here has) in
          let kept = ((rests.exactly source state).0 there).at_source refl in
          (kept.0, subst (λ set. Has a.count set kept.0) (sym at_line) kept.1, kept.2);
      at_line = λ here.
          let there = subst (λ set. Has a.count set state) at_line (subst (λ l. Has a.count (label_at new l) state) here has) in
          let kept = ((rests.exactly line state).0 there).at_line refl in
          (kept.0, subst (λ set. Has a.count set kept.0) (sym at_source) kept.1, kept.2);
    }),
    λ kept. kept.had,
  );
}

module _ (a : StateAlgebra) (c : Circuit) (inside : ℕ → Bool) (links inner : LinkList)
    (among : (source line : ℕ) → IsLink inner source line → IsLink links source line) (kind : Kind) (steps : List PinRef)
    (May : ℕ → State → Type 0) where
  -- labels at rest at all gates and links are at rest at those inside
  pub rest_within : (labels : List StateSet) → IsRestAmong a c (IsNarrowingOf c links kind steps) May labels
      → IsRestAmong a c (IsNarrowingIn c inside inner kind steps) May labels
  rest_within labels is = record { labelling = is.labelling; rest = rests; among = is.among }
    where
      rests : IsAtRest a c (IsNarrowingIn c inside inner kind steps) labels
      rests (at_gate gate condition) of = is.rest (at_gate gate condition) (of.0, of.2)
      rests (along_link source line) of = is.rest (along_link source line) (among source line of)

  -- what they empty is emptied
  pub emptied_within : (line : ℕ) → IsEmptied a c (IsNarrowingIn c inside inner kind steps) May line
      → IsEmptied a c (IsNarrowingOf c links kind steps) May line
  emptied_within line emptied =
      emptied_if_wider a c (IsNarrowingOf c links kind steps) (IsNarrowingIn c inside inner kind steps) May May rest_within line emptied

module _ (a : StateAlgebra) (c : Circuit) (laws : HasLaws a) (reads : ReadsLines c) (inside : ℕ → Bool) (links inner : LinkList)
    (linked : AreLinksOf c links) (closed : IsClosedUnder c inside links inner) (kind : Kind) (steps : List PinRef)
    (through : All (λ step. inside step.gate.0 ≡ true) steps) (May : ℕ → State → Type 0)
    (free : (gate : ℕ) → gate < gate_count c → inside gate ≡ false → (state : State) → state.0 < a.count → May (gate_line c gate) state)
    (loose : AreFreeOutside a links inner May)
    (labels : List StateSet) (is : IsHull a c (IsNarrowingIn c inside inner kind steps) May labels)
    (some : (line : ℕ) → line < line_count c → label_at labels line ≢ no_states) where
  abbrev IsWithin : ℕ → Type 0
  IsWithin = IsLineWithin c inside links inner

  abbrev outer : ℕ → Option ℕ
  outer = outer_line links inner

  abbrev source_set : SetOf → ℕ → Option ℕ → StateSet
  source_set sets source None = label_at labels source
  source_set sets source (Some line) = linked_set a (sets line)

  abbrev gate_set : SetOf → ℕ → StateSet
  gate_set sets gate = cond (inside gate) (label_at labels (gate_line c gate))
      (image a laws (kind_at c gate) (map (λ pin. sets pin.0) (pins_at c gate)))

  -- the labels inside, and outside what gates and links make of the sets
  abbrev step : SetOf → SetOf
  step sets line = cond (nat_lt line (source_count c)) (source_set sets line (outer line)) (gate_set sets (line - source_count c))

  module _ (sets : SetOf) where
    at_source : (line : ℕ) → line < source_count c → outer line ≡ None → step sets line ≡ label_at labels line
    at_source line source e =
        cond-true (nat_lt line (source_count c)) _ _ (lt-ltb line (source_count c) source) ∙ ap (source_set sets line) e

    at_loose : (line other : ℕ) → line < source_count c → outer line ≡ Some other → step sets line ≡ linked_set a (sets other)
    at_loose line other source e =
        cond-true (nat_lt line (source_count c)) _ _ (lt-ltb line (source_count c) source) ∙ ap (source_set sets line) e

    at_gate_line : (gate : ℕ) → step sets (gate_line c gate) ≡ gate_set sets gate
    at_gate_line gate =
        let same : gate_line c gate - source_count c ≡ gate = omega arith in
        cond-false (nat_lt (gate_line c gate) (source_count c)) _ _ (le-ltb (gate_line c gate) (source_count c) (omega arith))
        ∙ ap (gate_set sets) same

    at_inside : (gate : ℕ) → inside gate ≡ true → step sets (gate_line c gate) ≡ label_at labels (gate_line c gate)
    at_inside gate e = at_gate_line gate ∙ cond-true (inside gate) _ _ e

    at_outside : (gate : ℕ) → inside gate ≡ false
        → step sets (gate_line c gate) ≡ image a laws (kind_at c gate) (map (λ pin. sets pin.0) (pins_at c gate))
    at_outside gate e = at_gate_line gate ∙ cond-false (inside gate) _ _ e

  -- what holds of sources and gates, inside and outside, holds of all lines
  by_parts : (P : ℕ → Type 0) → ((line : ℕ) → line < source_count c → outer line ≡ None → P line)
      → ((line other : ℕ) → line < source_count c → outer line ≡ Some other → P line)
      → ((gate : ℕ) → gate < gate_count c → inside gate ≡ true → P (gate_line c gate))
      → ((gate : ℕ) → gate < gate_count c → inside gate ≡ false → P (gate_line c gate)) → (line : ℕ) → line < line_count c → P line
  by_parts P sources looses insides outsides line within = ⊎_elim
      (λ (source : line < source_count c). ⊎_elim (sources line source)
      (λ (found : (l : ℕ) × (outer line ≡ Some l)). looses line found.0 source found.1)
      (option_cases (outer line)))
      (λ (above : source_count c ≤ line).
      let gate = line - source_count c in
      let in_circuit : gate < gate_count c = omega arith in
      subst P (gate_line_of c line above)
      (⊎_elim (insides gate in_circuit) (outsides gate in_circuit) (cases_Bool (inside gate))))
      (cases_lt line (source_count c))

  loose_line : (line other : ℕ) → outer line ≡ Some other → other < line_count c
  loose_line line other e = linked_line c links linked line other (outer_is c links inner linked closed.among line other e).0

  abbrev Lies : SetOf → SetOf → Type 0
  Lies = LiesBelow a.count (line_count c)

  step_rises : (lower upper : SetOf) → Lies lower upper → Lies (step lower) (step upper)
  step_rises lower upper lies =
      let P : ℕ → Type 0 = λ line. (state : State) → Has a.count (step lower line) state → Has a.count (step upper line) state in
      by_parts P
      (λ line source e state has. subst (λ set. Has a.count set state) (at_source lower line source e ∙ sym (at_source upper line source e)) has)
      (λ line other source e state has.
      let was = linked_has a (lower other) state (subst (λ set. Has a.count set state) (at_loose lower line other source e) has) in
      subst (λ set. Has a.count set state) (sym (at_loose upper line other source e))
      (has_linked a (upper other) state (record {
        source = was.source;
        other = was.other;
        has = lies other (loose_line line other e) was.other was.has;
        link = was.link;
      })))
      (λ gate within e state has. subst (λ set. Has a.count set state) (at_inside lower gate e ∙ sym (at_inside upper gate e)) has)
      (λ gate within e state has.
      let makes = image_has a laws (kind_at c gate) (map (λ pin. lower pin.0) (pins_at c gate)) state
      (subst (λ set. Has a.count set state) (at_outside lower gate e) has) in
      let each = choice_into a.count lower upper (pins_at c gate)
      (λ i d in_pins. lies (get_or (pins_at c gate) i d).0 (reads gate within i d in_pins)) makes.each in
      subst (λ set. Has a.count set state) (sym (at_outside upper gate e))
      (subst (Has a.count (image a laws (kind_at c gate) (map (λ pin. upper pin.0) (pins_at c gate)))) makes.makes
      (has_image a laws (kind_at c gate) (map (λ pin. upper pin.0) (pins_at c gate)) each)))

  labels_within : (line : ℕ) → (label_at labels line).0 < 2 ^ a.count
  labels_within line = label_within a.count c labels is.rest.labelling line

  step_within : (sets : SetOf) (line : ℕ) → line < line_count c → (step sets line).0 < 2 ^ a.count
  step_within sets =
      let P : StateSet → Type 0 = λ set. set.0 < 2 ^ a.count in
      by_parts (λ line. P (step sets line))
      (λ line source e. subst P (sym (at_source sets line source e)) (labels_within line))
      (λ line other source e. subst P (sym (at_loose sets line other source e)) (linked_within a (sets other)))
      (λ gate within e. subst P (sym (at_inside sets gate e)) (labels_within (gate_line c gate)))
      (λ gate within e. subst P (sym (at_outside sets gate e))
      (image_within a laws (kind_at c gate) (map (λ pin. sets pin.0) (pins_at c gate))))

  abbrev HasSome : SetOf → ℕ → Type 0
  HasSome sets line = (state : State) × Has a.count (sets line) state

  abbrev IsRest : List StateSet → Type 0
  IsRest other = IsRestAmong a c (IsNarrowingOf c links kind steps) May other

  -- each line has some state, and all labels at rest lie in the sets
  record IsGood (sets : SetOf) : Type 0 where
    pub filled : (line : ℕ) → line < line_count c → HasSome sets line
    pub holds : (other : List StateSet) → IsRest other → Lies (label_at other) sets

  label_has : (line : ℕ) → line < line_count c → HasSome (label_at labels) line
  label_has line within = has_some a.count (label_at labels line) (labels_within line) (some line within)

  made : (sets : SetOf) (gate : ℕ) → inside gate ≡ false → {choice : List State}
      → IsChoice a.count (map (λ pin. sets pin.0) (pins_at c gate)) choice
      → Has a.count (step sets (gate_line c gate)) (gate_state a (kind_at c gate) choice)
  made sets gate e {choice} each =
      subst (λ set. Has a.count set (gate_state a (kind_at c gate) choice)) (sym (at_outside sets gate e))
      (has_image a laws (kind_at c gate) (map (λ pin. sets pin.0) (pins_at c gate)) each)

  step_some : (sets : SetOf) → IsGood sets → (line : ℕ) → line < line_count c → HasSome (step sets) line
  step_some sets good =
      let Q : StateSet → Type 0 = λ set. (state : State) × Has a.count set state in
      by_parts (HasSome (step sets))
      (λ line source e. subst Q (sym (at_source sets line source e)) (label_has line (omega (arith, source))))
      (λ line other source e.
      let has = good.filled other (loose_line line other e) in
      let found = some_linked a (sets other) laws has.0 has.1 in
      subst Q (sym (at_loose sets line other source e)) (found.0, found.1))
      (λ gate within e. subst Q (sym (at_inside sets gate e)) (label_has (gate_line c gate) (omega (arith, within))))
      (λ gate within e.
      let choice = some_choice a.count sets (pins_at c gate)
      (λ i d in_pins. good.filled (get_or (pins_at c gate) i d).0 (reads gate within i d in_pins)) in
      (gate_state a (kind_at c gate) choice.0, made sets gate e choice.1))

  step_holds : (sets : SetOf) → IsGood sets → (other : List StateSet) → IsRest other → Lies (label_at other) (step sets)
  step_holds sets good other rest =
      let lies = is.greatest other (rest_within a c inside links inner closed.among kind steps May other rest) in
      let P : ℕ → Type 0 = λ line. (state : State) → Has a.count (label_at other line) state → Has a.count (step sets line) state in
      by_parts P
      (λ line source e state has. subst (λ set. Has a.count set state) (sym (at_source sets line source e)) (lies line state has))
      (λ line behind source e state has.
      let link = outer_is c links inner linked closed.among line behind e in
      let kept = ((rest.rest (along_link line behind) link.0).exactly line state).0 has in
      let by = kept.at_source refl in
      subst (λ set. Has a.count set state) (sym (at_loose sets line behind source e))
      (has_linked a (sets behind) state (record {
        source = (loose line behind link.0 link.1 state).0 (rest.among line state has);
        other = by.0;
        has = good.holds other rest behind (loose_line line behind e) by.0 by.1;
        link = by.2;
      })))
      (λ gate within e state has. subst (λ set. Has a.count set state) (sym (at_inside sets gate e)) (lies (gate_line c gate) state has))
      (λ gate within e state has.
      let rests = rest.rest (at_gate gate None) (within, sym (none_at kind inside gate e steps through)) in
      let gives = ((rests.exactly (gate_line c gate) state).0 has).at_gate refl in
      let each = choice_into a.count (label_at other) sets (pins_at c gate)
      (λ i d in_pins. good.holds other rest (get_or (pins_at c gate) i d).0 (reads gate within i d in_pins)) gives.allowed.at_pins in
      subst (Has a.count (step sets (gate_line c gate))) gives.gives (made sets gate e each))

  step_good : (sets : SetOf) → IsGood sets → IsGood (step sets)
  step_good sets good = record { filled = step_some sets good; holds = step_holds sets good }

  all_good : IsGood (λ line. all_states a.count)
  all_good = record {
    filled = λ line within. let has = label_has line within in (has.0, all_have a.count has.0 has.1.in_range);
    holds = λ other rest line within state has. all_have a.count state has.in_range;
  }

  solution : (sets : SetOf) × IsSolved a.count (line_count c) step step_rises step_within IsGood step_good sets
  solution = solved a.count (line_count c) step step_rises step_within IsGood step_good all_good

  abbrev found : SetOf
  found = solution.0

  abbrev whole : List StateSet
  whole = map found (range_with_len 0 (line_count c))

  label_whole : (line : ℕ) → line < line_count c → label_at whole line ≡ found line
  label_whole line within = get_or-map-range_with_len found 0 (line_count c) line line no_states within (omega arith)

  -- each set is what the step makes of them
  whole_step : (line : ℕ) → line < line_count c → label_at whole line ≡ step found line
  whole_step line within = label_whole line within ∙ sym (solution.1.same line within)

  whole_has : (line : ℕ) → line < line_count c → HasSome (label_at whole) line
  whole_has line within =
      let Q : StateSet → Type 0 = λ set. (state : State) × Has a.count set state in
      subst Q (sym (label_whole line within)) (solution.1.good.filled line within)

  whole_some : HasNoEmptySet c whole
  whole_some line within = let has = whole_has line within in λ none. none_has a.count has.0 (subst (λ set. Has a.count set has.0) none has.1)

  whole_length : length whole ≡ line_count c
  whole_length = length-map-range_with_len found 0 (line_count c)

  labelling : IsLabelling a.count c whole
  labelling = record {
    one_each = whole_length;
    within = All-from_get_or (λ (set : StateSet). set.0 < 2 ^ a.count) whole no_states
        (λ line in_whole.
        let within : line < line_count c = omega (arith, in_whole, whole_length) in
        subst (λ (set : StateSet). set.0 < 2 ^ a.count) (sym (whole_step line within)) (step_within found line within));
  }

  -- nothing changes inside
  whole_same : (line : ℕ) → IsWithin line → label_at whole line ≡ label_at labels line
  whole_same line of = ⊎_elim
      (λ (source : (line < source_count c) × ((other : ℕ) → IsLink links line other → IsLink inner line other)).
      whole_step line (omega (arith, source.0)) ∙ at_source found line source.0 (not_outer c links inner linked closed.among line source.1))
      (λ (gate : (g : ℕ) × (g < gate_count c) × (inside g ≡ true) × (line ≡ gate_line c g)).
      ap (label_at whole) gate.3 ∙ whole_step (gate_line c gate.0) (omega (arith, gate.1)) ∙ at_inside found gate.0 gate.2
      ∙ ap (label_at labels) (sym gate.3)) of

  pins_some : (gate : ℕ) → gate < gate_count c → All (λ pin. HasSome (label_at whole) pin.0) (pins_at c gate)
  pins_some gate within i d in_pins = whole_has (get_or (pins_at c gate) i d).0 (reads gate within i d in_pins)

  abbrev pins_of : ℕ → List StateSet
  pins_of gate = map (λ pin. label_at whole pin.0) (pins_at c gate)

  outside_is : (gate : ℕ) → gate < gate_count c → inside gate ≡ false
      → label_at whole (gate_line c gate) ≡ image a laws (kind_at c gate) (pins_of gate)
  outside_is gate within e =
      whole_step (gate_line c gate) (omega (arith, within)) ∙ at_outside found gate e
      ∙ ap (image a laws (kind_at c gate)) (map_agree (λ (pin : LineId). found pin.0) (λ (pin : LineId). label_at whole pin.0) (pins_at c gate)
      (λ i d in_pins. sym (label_whole (get_or (pins_at c gate) i d).0 (reads gate within i d in_pins))))

  makes_outside : (gate : ℕ) → gate < gate_count c → inside gate ≡ false → {choice : List State} → IsChoice a.count (pins_of gate) choice
      → Has a.count (label_at whole (gate_line c gate)) (gate_state a (kind_at c gate) choice)
  makes_outside gate within e {choice} each =
      subst (λ set. Has a.count set (gate_state a (kind_at c gate) choice)) (sym (outside_is gate within e))
      (has_image a laws (kind_at c gate) (pins_of gate) each)

  -- a gate outside rests
  outside_rests : (gate : ℕ) → gate < gate_count c → inside gate ≡ false → IsNarrowing a c gate None whole whole
  outside_rests gate within e = record {
    lines = refl;
    exactly = λ line state. (
      (λ has. record {
        had = has;
        at_gate = λ here.
            let own : Has a.count (label_at whole (gate_line c gate)) state = subst (λ l. Has a.count (label_at whole l) state) here has in
            let makes = image_has a laws (kind_at c gate) (pins_of gate) state
            (subst (λ set. Has a.count set state) (outside_is gate within e) own) in
            record {
              choice = makes.choice;
              allowed = record { at_pins = makes.each; at_gate = makes_outside gate within e makes.each; meets = tt };
              gives = makes.makes;
            };
        at_pins = λ pin reads_pin.
            let with = choice_with a.count (label_at whole) (pins_at c gate) (pins_some gate within) pin (record { 0 = line }) reads_pin
            state has in
            record {
              choice = with.0;
              allowed = record { at_pins = with.1; at_gate = makes_outside gate within e with.1; meets = tt };
              gives = with.2;
            };
      }),
      λ kept. kept.had,
    );
  }

  -- a gate inside rests as it does at the labels
  inside_rests : (gate : ℕ) → gate < gate_count c → inside gate ≡ true → IsNarrowing a c gate (condition_at kind steps gate) whole whole
  inside_rests gate within e =
      same_rests a c gate (condition_at kind steps gate) labels whole
      (All-push (λ (line : LineId). label_at whole line.0 ≡ label_at labels line.0) (pins_at c gate) (record { 0 = gate_line c gate })
      (λ i d in_pins. whole_same (get_or (pins_at c gate) i d).0 (closed.pins gate within e i d in_pins))
      (whole_same (gate_line c gate) (inr (gate, within, e, refl))))
      (is.rest.rest (at_gate gate (condition_at kind steps gate)) (within, e, refl))

  -- the set of a source with a link outside
  loose_is : (source line : ℕ) → outer source ≡ Some line → label_at whole source ≡ linked_set a (label_at whole line)
  loose_is source line e =
      let in_sources : source < source_count c = linked_source c links linked source line (outer_is c links inner linked closed.among source line e).0 in
      whole_step source (omega (arith, in_sources)) ∙ at_loose found source line in_sources e
      ∙ ap (linked_set a) (sym (label_whole line (loose_line source line e)))

  -- a link outside rests
  loose_rests : (source line : ℕ) → outer source ≡ Some line → IsLinkNarrowing a source line whole whole
  loose_rests source line e = record {
    lines = refl;
    exactly = λ at state. (
      (λ has. record {
        had = has;
        at_source = λ here.
            let by = linked_has a (label_at whole line) state
            (subst (λ set. Has a.count set state) (loose_is source line e) (subst (λ l. Has a.count (label_at whole l) state) here has)) in
            (by.other, by.has, by.link);
        at_line = λ here.
            let by = some_linked a (label_at whole line) laws state (subst (λ l. Has a.count (label_at whole l) state) here has) in
            (by.0, subst (λ set. Has a.count set by.0) (sym (loose_is source line e)) by.1, by.2);
      }),
      λ kept. kept.had,
    );
  }

  link_rests : (source line : ℕ) → IsLink links source line → IsLinkNarrowing a source line whole whole
  link_rests source line link = ⊎_elim
      (λ (none : outer source ≡ None).
      let within = inner_of c links inner linked closed.among source none line link in
      same_link_rests a source line labels whole
      (whole_same source (inl (linked_source c links linked source line link, inner_of c links inner linked closed.among source none)))
      (whole_same line (closed.lines source line within))
      (is.rest.rest (along_link source line) within))
      (λ (found : (l : ℕ) × (outer source ≡ Some l)).
      subst (λ (l : ℕ). IsLinkNarrowing a source l whole whole)
      (linked_once c links linked source found.0 line (outer_is c links inner linked closed.among source found.0 found.1).0 link)
      (loose_rests source found.0 found.1))
      (option_cases (outer source))

  whole_rests : IsAtRest a c (IsNarrowingOf c links kind steps) whole
  whole_rests (at_gate gate condition) of = ⊎_elim
      (λ (e : inside gate ≡ true).
      subst (λ k. IsNarrowing a c gate k whole whole) (sym of.1) (inside_rests gate of.0 e))
      (λ (e : inside gate ≡ false).
      subst (λ k. IsNarrowing a c gate k whole whole) (sym (of.1 ∙ none_at kind inside gate e steps through))
      (outside_rests gate of.0 e))
      (cases_Bool (inside gate))
  whole_rests (along_link source line) of = link_rests source line of

  may_in : (line : ℕ) → line < line_count c → (state : State) → Has a.count (label_at whole line) state → May line state
  may_in =
      by_parts (λ line. (state : State) → Has a.count (label_at whole line) state → May line state)
      (λ line source e state has. is.rest.among line state
      (subst (λ set. Has a.count set state) (whole_same line (inl (source, inner_of c links inner linked closed.among line e))) has))
      (λ line other source e state has.
      let link = outer_is c links inner linked closed.among line other e in
      (loose line other link.0 link.1 state).1
      (linked_has a (label_at whole other) state (subst (λ set. Has a.count set state) (loose_is line other e) has)).source)
      (λ gate within e state has. is.rest.among (gate_line c gate) state
      (subst (λ set. Has a.count set state) (whole_same (gate_line c gate) (inr (gate, within, e, refl))) has))
      (λ gate within e state has. free gate within e state has.in_range)

  whole_among : IsRest whole
  whole_among = record {
    labelling = labelling;
    rest = whole_rests;
    among = λ line state has. may_in line (has_in_circuit a.count c whole labelling line state has) state has;
  }

  -- labels that are the hull of the narrowings inside are part of the hull of all narrowings
  pub part_of_linked_hull : IsPartOfHull a c (IsLineWithin c inside links inner) links kind steps May labels
  part_of_linked_hull = record {
    whole = whole;
    hull = record {
      rest = whole_among;
      greatest = λ other rest line state has.
          let within = has_in_circuit a.count c other rest.labelling line state has in
          subst (λ set. Has a.count set state) (sym (label_whole line within)) (solution.1.good.holds other rest line within state has);
    };
    none_empty = whole_some;
    same = whole_same;
    lies = is.greatest whole (rest_within a c inside links inner closed.among kind steps May whole whole_among);
  }
