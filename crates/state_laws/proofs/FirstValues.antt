-- The law of first values: what is behind the links of sources that are not near a path's end closes nothing and changes no label of a near
-- line. Labels at rest at all gates and along the inner links are changed outside the near lines alone. There a source has its states
-- that begin as its label does and end as the line of its link may begin; and a gate has of its pins' sets the states that begin as its
-- label does. Each line then still begins as its label does, and of what a link or a gate outside cuts no more than that is asked.
use Rattle.std.proofs.Common.{◌≡◌, ℕ, ◌<◌, ◌^◌, inl, inr, ⊎_elim, Bool, true, false, cond, List, map, length, get_or, Option, Some, None, refl, sym, ap, ◌∙◌, subst, arith}
use Rattle.std.specs.List.{All, range_with_len}
use Rattle.std.proofs.lemmas.Bool.{cases_Bool, cond-true, cond-false, false≢true}
use Rattle.std.proofs.lemmas.List.Elements.{All-push, All-from_get_or}
use Rattle.std.proofs.lemmas.List.FromFn.{get_or-map-range_with_len, length-map-range_with_len}
use Rattle.pd_base.specs.Links.{LinkList, IsLink}
use Rattle.pd_base.specs.declared.ids.LineId.{LineId}
use Rattle.pd_base.specs.declared.ids.PinRef.{PinRef}
use Rattle.pd_base.specs.declared.fault.Kind.{Kind}
use Rattle.netlist.specs.Circuit.{Circuit, source_count, gate_count, line_count, gate_line, kind_at, pins_at}
use Rattle.netlist.specs.Evaluation.{value_of}
use Rattle.netlist.specs.Lawful.{ReadsLines, IsLoopFree}
use Rattle.netlist.specs.LinkedPairs.{AreLinksOf}
use Rattle.netlist.proofs.Evaluation.{map_agree, all_at_place, line_induction, value_at_source, value_at_gate}
use Rattle.state_sets.specs.declared.state.State.{State}
use Rattle.state_sets.specs.declared.state.StateSet.{StateSet}
use Rattle.state_sets.specs.States.{Has, no_states}
use Rattle.state_sets.specs.StateAlgebra.{StateAlgebra, HasLaws, MaySteady, same_bit}
use Rattle.state_sets.specs.ComputedLaws.{same_bit_tells}
use Rattle.state_sets.specs.Labellings.{label_at, IsLabelling, LiesIn}
use Rattle.state_sets.specs.Narrowing.{IsChoice, IsNarrowing, IsLinkNarrowing, gate_state}
use Rattle.state_sets.specs.Hulls.{IsNarrowingOf, IsAtRest, IsRestAmong, IsHull, IsEmptied, HasNoEmptySet, condition_at}
use Rattle.state_sets.specs.Hulls.Narrowing.{at_gate, along_link}
use Rattle.state_laws.specs.Cones.{IsNarrowingIn, IsLineWithin, IsClosedUnder, AreFreeOutside, IsPartOfHull}
use Rattle.state_laws.specs.FirstValues.{FirstLaws, IsNear}
use Rattle.state_laws.proofs.Choices.{choice_into}
use Rattle.state_laws.proofs.Cones.{same_rests, none_at}
use Rattle.state_laws.proofs.FirstSets.{Begins, BeginsAll, begins_own, cut_set, cut_has, has_cut, cut_within, make_alike, make_with, linked_if, linked_alike}
use Rattle.state_laws.proofs.Images.{image, image_has, has_image, has_some}
use Rattle.state_laws.proofs.Hulls.{emptied_if_wider}
use Rattle.state_laws.proofs.Linked.{linked_source, linked_line}
use Rattle.state_laws.proofs.LinkedCones.{part_of_linked_hull}
use Rattle.state_laws.proofs.LinkedSets.{linked_set, linked_has, has_linked, linked_once}
use Rattle.state_laws.proofs.OuterLinks.{option_cases, outer_line, outer_is, inner_of, not_outer}
use Rattle.state_laws.proofs.Sets.{none_has, has_in_circuit, label_within}

-- where two bits are one, a line that is steady or not as they are has one value under both vectors
may_same : (first last : Bool) → MaySteady (same_bit first last) first last
may_same first last same = same_bit_tells first last same

module _ (a : StateAlgebra) (c : Circuit) (links inner : LinkList)
    (among : (source line : ℕ) → IsLink inner source line → IsLink links source line) (kind : Kind) (steps : List PinRef)
    (May : ℕ → State → Type 0) where
  -- labels at rest along all links are at rest along the inner ones
  pub rest_along : (labels : List StateSet) → IsRestAmong a c (IsNarrowingOf c links kind steps) May labels
      → IsRestAmong a c (IsNarrowingOf c inner kind steps) May labels
  rest_along labels is = record { labelling = is.labelling; rest = rests; among = is.among }
    where
      rests : IsAtRest a c (IsNarrowingOf c inner kind steps) labels
      rests (at_gate gate condition) of = is.rest (at_gate gate condition) of
      rests (along_link source line) of = is.rest (along_link source line) (among source line of)

  -- a line that is emptied under the inner links is emptied under all
  pub emptied_along : (line : ℕ) → IsEmptied a c (IsNarrowingOf c inner kind steps) May line
      → IsEmptied a c (IsNarrowingOf c links kind steps) May line
  emptied_along line emptied =
      emptied_if_wider a c (IsNarrowingOf c links kind steps) (IsNarrowingOf c inner kind steps) May May rest_along line emptied

module _ (a : StateAlgebra) (c : Circuit) (laws : HasLaws a) (first : State → Bool) (tells : FirstLaws a first) (reads : ReadsLines c)
    (loop_free : IsLoopFree c) (near : ℕ → Bool) (links inner : LinkList) (linked : AreLinksOf c links) (closed : IsNear c near links inner)
    (kind : Kind) (steps : List PinRef) (through : All (λ step. near step.gate.0 ≡ true) steps) (May : ℕ → State → Type 0)
    (free : (gate : ℕ) → gate < gate_count c → near gate ≡ false → (state : State) → state.0 < a.count → May (gate_line c gate) state)
    (loose : AreFreeOutside a links inner May)
    (labels : List StateSet) (is : IsHull a c (IsNarrowingOf c inner kind steps) May labels) (some : HasNoEmptySet c labels) where
  abbrev IsWithin : ℕ → Type 0
  IsWithin = IsLineWithin c near links inner

  abbrev outer : ℕ → Option ℕ
  outer = outer_line links inner

  outer_link : (source line : ℕ) → outer source ≡ Some line → IsLink links source line × (¬ IsLink inner source line)
  outer_link = outer_is c links inner linked closed.among

  source_of : (source line : ℕ) → outer source ≡ Some line → source < source_count c
  source_of source line e = linked_source c links linked source line (outer_link source line e).0

  line_of : (source line : ℕ) → outer source ≡ Some line → line < line_count c
  line_of source line e = linked_line c links linked source line (outer_link source line e).0

  -- the states of a source that begin as its label does and end as the line of its link may begin
  abbrev loose_set : ℕ → ℕ → StateSet
  loose_set source line = cut_set a first (linked_set a (label_at labels line)) (label_at labels source)

  abbrev source_set : ℕ → Option ℕ → StateSet
  source_set source None = label_at labels source
  source_set source (Some line) = loose_set source line

  -- what a gate outside has of its pins' sets that begins as its label does
  abbrev far_set : ℕ → List StateSet → StateSet
  far_set gate sets = cut_set a first (image a laws (kind_at c gate) sets) (label_at labels (gate_line c gate))

  abbrev gate_set : ℕ → List StateSet → StateSet
  gate_set gate sets = cond (near gate) (label_at labels (gate_line c gate)) (far_set gate sets)

  abbrev base : ℕ → StateSet
  base source = source_set source (outer source)

  abbrev whole_at : ℕ → StateSet
  whole_at line = value_of c base gate_set line

  -- the labels of near lines, and outside what begins as the labels do
  abbrev whole : List StateSet
  whole = map whole_at (range_with_len 0 (line_count c))

  label_whole : (line : ℕ) → line < line_count c → label_at whole line ≡ whole_at line
  label_whole line within = get_or-map-range_with_len whole_at 0 (line_count c) line line no_states within (omega arith)

  at_source : (line : ℕ) → line < source_count c → label_at whole line ≡ base line
  at_source line source = label_whole line (omega arith) ∙ value_at_source c base gate_set line source

  at_kept : (line : ℕ) → line < source_count c → outer line ≡ None → label_at whole line ≡ label_at labels line
  at_kept line source e = at_source line source ∙ ap (source_set line) e

  at_loose : (source line : ℕ) → outer source ≡ Some line → label_at whole source ≡ loose_set source line
  at_loose source line e = at_source source (source_of source line e) ∙ ap (source_set source) e

  abbrev pins_of : ℕ → List StateSet
  pins_of gate = map (λ pin. label_at whole pin.0) (pins_at c gate)

  at_gate_line : (gate : ℕ) → gate < gate_count c → label_at whole (gate_line c gate) ≡ gate_set gate (pins_of gate)
  at_gate_line gate within =
      label_whole (gate_line c gate) (omega arith)
      ∙ value_at_gate c base gate_set reads loop_free gate within
      ∙ ap (gate_set gate) (map_agree (λ (pin : LineId). whole_at pin.0) (λ (pin : LineId). label_at whole pin.0) (pins_at c gate)
      (λ i d in_pins. sym (label_whole (get_or (pins_at c gate) i d).0 (reads gate within i d in_pins))))

  at_near : (gate : ℕ) → gate < gate_count c → near gate ≡ true → label_at whole (gate_line c gate) ≡ label_at labels (gate_line c gate)
  at_near gate within e = at_gate_line gate within ∙ cond-true (near gate) _ _ e

  at_far : (gate : ℕ) → gate < gate_count c → near gate ≡ false → label_at whole (gate_line c gate) ≡ far_set gate (pins_of gate)
  at_far gate within e = at_gate_line gate within ∙ cond-false (near gate) _ _ e

  -- what holds of sources and near gates, and of gates outside where it holds at their pins, holds of all lines
  by_parts : (P : ℕ → Type 0) → ((line : ℕ) → line < source_count c → outer line ≡ None → P line)
      → ((line other : ℕ) → outer line ≡ Some other → P line)
      → ((gate : ℕ) → gate < gate_count c → near gate ≡ true → P (gate_line c gate))
      → ((gate : ℕ) → gate < gate_count c → near gate ≡ false → All (λ pin. P pin.0) (pins_at c gate) → P (gate_line c gate))
      → (line : ℕ) → line < line_count c → P line
  by_parts P kept looses nears fars =
      line_induction c reads P
      (λ line source. ⊎_elim (kept line source)
      (λ (found : (l : ℕ) × (outer line ≡ Some l)). looses line found.0 found.1)
      (option_cases (outer line)))
      (λ gate within pins. ⊎_elim (nears gate within) (λ (e : near gate ≡ false). fars gate within e pins) (cases_Bool (near gate)))
      loop_free

  -- nothing changes at near lines
  whole_same : (line : ℕ) → IsWithin line → label_at whole line ≡ label_at labels line
  whole_same line of = ⊎_elim
      (λ (source : (line < source_count c) × ((other : ℕ) → IsLink links line other → IsLink inner line other)).
      at_kept line source.0 (not_outer c links inner linked closed.among line source.1))
      (λ (gate : (g : ℕ) × (g < gate_count c) × (near g ≡ true) × (line ≡ gate_line c g)).
      ap (label_at whole) gate.3 ∙ at_near gate.0 gate.1 gate.2 ∙ ap (label_at labels) (sym gate.3)) of

  labels_within : (line : ℕ) → (label_at labels line).0 < 2 ^ a.count
  labels_within line = label_within a.count c labels is.rest.labelling line

  label_has : (line : ℕ) → line < line_count c → (state : State) × Has a.count (label_at labels line) state
  label_has line within = has_some a.count (label_at labels line) (labels_within line) (some line within)

  moved : {set other : StateSet} → set ≡ other → (state : State) → Has a.count set state → Has a.count other state
  moved same state has = subst (λ s. Has a.count s state) same has

  -- each state begins as some state of the label
  begins_so : (line : ℕ) → line < line_count c → BeginsAll a first (label_at whole line) (label_at labels line)
  begins_so =
      let P : ℕ → Type 0 = λ line. BeginsAll a first (label_at whole line) (label_at labels line) in
      by_parts P
      (λ line source e state has. begins_own a first (label_at labels line) state (moved (at_kept line source e) state has))
      (λ source line e state has.
      (cut_has a first (linked_set a (label_at labels line)) (label_at labels source) state (moved (at_loose source line e) state has)).1)
      (λ gate within e state has. begins_own a first (label_at labels (gate_line c gate)) state (moved (at_near gate within e) state has))
      (λ gate within e pins state has.
      (cut_has a first (image a laws (kind_at c gate) (pins_of gate)) (label_at labels (gate_line c gate)) state
      (moved (at_far gate within e) state has)).1)

  -- of a source outside: it may begin as its label does, and end as the line of its link begins
  loose_begins : (source line : ℕ) → outer source ≡ Some line → (bit : Bool) → Begins a first (label_at labels source) bit
      → (other : State) → Has a.count (label_at labels line) other
      → (state : State) × Has a.count (label_at whole source) state × (first state ≡ bit) × (a.last state ≡ first other)
  loose_begins source line e bit begun other has =
      let state = a.of (same_bit bit (first other)) bit (first other) in
      let begins : first state ≡ bit = tells.of_first (same_bit bit (first other)) bit (first other) (may_same bit (first other)) in
      let ends : a.last state ≡ first other = laws.of_last (same_bit bit (first other)) bit (first other) in
      let is_source = laws.of_source bit (first other) in
      let link = linked_if a laws first tells state other is_source.in_range has.in_range ends in
      let was : Begins a first (label_at labels source) (first state) =
      record { state = begun.state; has = begun.has; begins = begun.begins ∙ sym begins } in
      let in_set = has_cut a first (linked_set a (label_at labels line)) (label_at labels source) state
      (has_linked a (label_at labels line) state (record { source = is_source; other = other; has = has; link = link })) was in
      (state, moved (sym (at_loose source line e)) state in_set, begins, ends)

  -- no step goes through a gate outside
  unconditioned : (gate : ℕ) → near gate ≡ false → condition_at kind steps gate ≡ None
  unconditioned gate e = none_at kind near gate e steps through

  far_rest : (gate : ℕ) → gate < gate_count c → near gate ≡ false → IsNarrowing a c gate None labels labels
  far_rest gate within e = is.rest.rest (at_gate gate None) (within, sym (unconditioned gate e))

  -- what a gate outside has of a choice that begins so
  far_has : (gate : ℕ) → gate < gate_count c → near gate ≡ false → {choice : List State} → IsChoice a.count (pins_of gate) choice
      → Begins a first (label_at labels (gate_line c gate)) (first (gate_state a (kind_at c gate) choice))
      → Has a.count (label_at whole (gate_line c gate)) (gate_state a (kind_at c gate) choice)
  far_has gate within e {choice} each begun =
      moved (sym (at_far gate within e)) (gate_state a (kind_at c gate) choice)
      (has_cut a first (image a laws (kind_at c gate) (pins_of gate)) (label_at labels (gate_line c gate))
      (gate_state a (kind_at c gate) choice) (has_image a laws (kind_at c gate) (pins_of gate) each) begun)

  -- and each state of the label begins as some state
  begins_all : (line : ℕ) → line < line_count c → BeginsAll a first (label_at labels line) (label_at whole line)
  begins_all =
      let P : ℕ → Type 0 = λ line. BeginsAll a first (label_at labels line) (label_at whole line) in
      by_parts P
      (λ line source e state has. begins_own a first (label_at whole line) state (moved (sym (at_kept line source e)) state has))
      (λ source line e state has.
      let other = label_has line (line_of source line e) in
      let found = loose_begins source line e (first state) (begins_own a first (label_at labels source) state has) other.0 other.1 in
      record { state = found.0; has = found.1; begins = found.2 })
      (λ gate within e state has.
      begins_own a first (label_at whole (gate_line c gate)) state (moved (sym (at_near gate within e)) state has))
      (λ gate within e pins state has.
      let gives = (((far_rest gate within e).exactly (gate_line c gate) state).0 has).at_gate refl in
      let found = make_alike a laws first tells (label_at labels) (label_at whole) (kind_at c gate) (pins_at c gate) pins
      gives.allowed.at_pins in
      let same : first (gate_state a (kind_at c gate) found.choice) ≡ first state = found.alike ∙ ap first gives.gives in
      record {
        state = gate_state a (kind_at c gate) found.choice;
        has = far_has gate within e found.each (record { state = state; has = has; begins = sym same });
        begins = same;
      })

  -- each line has some state
  whole_some : HasNoEmptySet c whole
  whole_some line within =
      let has = label_has line within in
      let begun = begins_all line within has.0 has.1 in
      λ none. none_has a.count begun.state (moved none begun.state begun.has)

  whole_length : length whole ≡ line_count c
  whole_length = length-map-range_with_len whole_at 0 (line_count c)

  whole_within : (line : ℕ) → line < line_count c → (label_at whole line).0 < 2 ^ a.count
  whole_within =
      let P : StateSet → Type 0 = λ set. set.0 < 2 ^ a.count in
      by_parts (λ line. P (label_at whole line))
      (λ line source e. subst P (sym (at_kept line source e)) (labels_within line))
      (λ source line e. subst P (sym (at_loose source line e))
      (cut_within a first (linked_set a (label_at labels line)) (label_at labels source)))
      (λ gate within e. subst P (sym (at_near gate within e)) (labels_within (gate_line c gate)))
      (λ gate within e pins. subst P (sym (at_far gate within e))
      (cut_within a first (image a laws (kind_at c gate) (pins_of gate)) (label_at labels (gate_line c gate))))

  labelling : IsLabelling a.count c whole
  labelling = record {
    one_each = whole_length;
    within = All-from_get_or (λ (set : StateSet). set.0 < 2 ^ a.count) whole no_states
        (λ line in_whole. whole_within line (omega (arith, whole_length)));
  }

  pins_begin : (gate : ℕ) → gate < gate_count c → All (λ pin. BeginsAll a first (label_at labels pin.0) (label_at whole pin.0)) (pins_at c gate)
  pins_begin gate within i d in_pins = begins_all (get_or (pins_at c gate) i d).0 (reads gate within i d in_pins)

  -- a gate outside rests
  far_rests : (gate : ℕ) → gate < gate_count c → near gate ≡ false → IsNarrowing a c gate None whole whole
  far_rests gate within e = record {
    lines = refl;
    exactly = λ line state. (
      (λ has. record {
        had = has;
        at_gate = λ here.
            let own : Has a.count (label_at whole (gate_line c gate)) state = subst (λ l. Has a.count (label_at whole l) state) here has in
            let cut = cut_has a first (image a laws (kind_at c gate) (pins_of gate)) (label_at labels (gate_line c gate)) state
            (moved (at_far gate within e) state own) in
            let makes = image_has a laws (kind_at c gate) (pins_of gate) state cut.0 in
            record {
              choice = makes.choice;
              allowed = record {
                at_pins = makes.each;
                at_gate = subst (Has a.count (label_at whole (gate_line c gate))) (sym makes.makes) own;
                meets = tt;
              };
              gives = makes.makes;
            };
        at_pins = λ pin reads_pin.
            let in_circuit : line < line_count c =
            all_at_place (λ (l : LineId). l.0 < line_count c) (pins_at c gate) pin (record { 0 = line }) (reads gate within) reads_pin in
            let begun = begins_so line in_circuit state has in
            let gives = (((far_rest gate within e).exactly line begun.state).0 begun.has).at_pins pin reads_pin in
            let found = make_with a laws first tells (label_at labels) (label_at whole) (kind_at c gate) (pins_at c gate)
            (pins_begin gate within) pin (record { 0 = line }) reads_pin state begun.state has (sym begun.begins) gives.allowed.at_pins
            gives.gives in
            record {
              choice = found.0.choice;
              allowed = record {
                at_pins = found.0.each;
                at_gate = far_has gate within e found.0.each (record {
                  state = gate_state a (kind_at c gate) gives.choice;
                  has = gives.allowed.at_gate;
                  begins = sym found.0.alike;
                });
                meets = tt;
              };
              gives = found.1;
            };
      }),
      λ kept. kept.had,
    );
  }

  -- a near gate rests as it does at the labels
  near_rests : (gate : ℕ) → gate < gate_count c → near gate ≡ true → IsNarrowing a c gate (condition_at kind steps gate) whole whole
  near_rests gate within e =
      same_rests a c gate (condition_at kind steps gate) labels whole
      (All-push (λ (line : LineId). label_at whole line.0 ≡ label_at labels line.0) (pins_at c gate) (record { 0 = gate_line c gate })
      (λ i d in_pins. whole_same (get_or (pins_at c gate) i d).0 (closed.pins gate within e i d in_pins))
      (at_near gate within e))
      (is.rest.rest (at_gate gate (condition_at kind steps gate)) (within, refl))

  -- an inner link rests: the source is as at the labels, and the line begins so
  inner_rests : (source line : ℕ) → outer source ≡ None → IsLink links source line → IsLinkNarrowing a source line whole whole
  inner_rests source line none link =
      let rests : IsLinkNarrowing a source line labels labels =
      is.rest.rest (along_link source line) (inner_of c links inner linked closed.among source none line link) in
      let in_circuit = linked_line c links linked source line link in
      let same = at_kept source (linked_source c links linked source line link) none in
      record {
        lines = refl;
        exactly = λ at state. (
          (λ has. record {
            had = has;
            at_source = λ here.
                let there = moved same state (subst (λ l. Has a.count (label_at whole l) state) here has) in
                let kept = ((rests.exactly source state).0 there).at_source refl in
                let begun = begins_all line in_circuit kept.0 kept.1 in (
                  begun.state,
                  begun.has,
                  linked_alike a laws first tells state kept.0 begun.state has.in_range kept.1.in_range begun.has.in_range begun.begins kept.2,
                );
            at_line = λ here.
                let begun = begins_so line in_circuit state (subst (λ l. Has a.count (label_at whole l) state) here has) in
                let kept = ((rests.exactly line begun.state).0 begun.has).at_line refl in (
                  kept.0,
                  moved (sym same) kept.0 kept.1,
                  linked_alike a laws first tells kept.0 begun.state state kept.1.in_range begun.has.in_range has.in_range
                      (sym begun.begins) kept.2,
                );
          }),
          λ kept. kept.had,
        );
      }

  -- a link outside rests
  loose_rests : (source line : ℕ) → outer source ≡ Some line → IsLinkNarrowing a source line whole whole
  loose_rests source line e =
      let in_circuit = line_of source line e in
      record {
        lines = refl;
        exactly = λ at state. (
          (λ has. record {
            had = has;
            at_source = λ here.
                let cut = cut_has a first (linked_set a (label_at labels line)) (label_at labels source) state
                (moved (at_loose source line e) state (subst (λ l. Has a.count (label_at whole l) state) here has)) in
                let by = linked_has a (label_at labels line) state cut.0 in
                let begun = begins_all line in_circuit by.other by.has in (
                  begun.state,
                  begun.has,
                  linked_alike a laws first tells state by.other begun.state has.in_range by.has.in_range begun.has.in_range begun.begins by.link,
                );
            at_line = λ here.
                let begun = begins_so line in_circuit state (subst (λ l. Has a.count (label_at whole l) state) here has) in
                let own = label_has source (omega (arith, source_of source line e)) in
                let found = loose_begins source line e (first own.0) (begins_own a first (label_at labels source) own.0 own.1)
                begun.state begun.has in (
                  found.0,
                  found.1,
                  linked_if a laws first tells found.0 state found.1.in_range has.in_range (found.3 ∙ begun.begins),
                );
          }),
          λ kept. kept.had,
        );
      }

  link_rests : (source line : ℕ) → IsLink links source line → IsLinkNarrowing a source line whole whole
  link_rests source line link = ⊎_elim (λ (none : outer source ≡ None). inner_rests source line none link)
      (λ (found : (l : ℕ) × (outer source ≡ Some l)).
      subst (λ (l : ℕ). IsLinkNarrowing a source l whole whole)
      (linked_once c links linked source found.0 line (outer_link source found.0 found.1).0 link)
      (loose_rests source found.0 found.1))
      (option_cases (outer source))

  whole_rests : IsAtRest a c (IsNarrowingOf c links kind steps) whole
  whole_rests (at_gate gate condition) of = ⊎_elim
      (λ (e : near gate ≡ true). subst (λ k. IsNarrowing a c gate k whole whole) (sym of.1) (near_rests gate of.0 e))
      (λ (e : near gate ≡ false).
      subst (λ k. IsNarrowing a c gate k whole whole) (sym (of.1 ∙ unconditioned gate e)) (far_rests gate of.0 e))
      (cases_Bool (near gate))
  whole_rests (along_link source line) of = link_rests source line of

  may_in : (line : ℕ) → line < line_count c → (state : State) → Has a.count (label_at whole line) state → May line state
  may_in =
      by_parts (λ line. (state : State) → Has a.count (label_at whole line) state → May line state)
      (λ line source e state has. is.rest.among line state (moved (at_kept line source e) state has))
      (λ source line e state has.
      let link = outer_link source line e in
      let cut = cut_has a first (linked_set a (label_at labels line)) (label_at labels source) state (moved (at_loose source line e) state has) in
      (loose source line link.0 link.1 state).1 (linked_has a (label_at labels line) state cut.0).source)
      (λ gate within e state has. is.rest.among (gate_line c gate) state (moved (at_near gate within e) state has))
      (λ gate within e pins state has. free gate within e state has.in_range)

  whole_among : IsRestAmong a c (IsNarrowingOf c links kind steps) May whole
  whole_among = record {
    labelling = labelling;
    rest = whole_rests;
    among = λ line state has. may_in line (has_in_circuit a.count c whole labelling line state has) state has;
  }

  module _ (other : List StateSet) (rest : IsRestAmong a c (IsNarrowingOf c links kind steps) May other) where
    -- labels at rest along all links lie in these labels
    other_inside : LiesIn a.count other labels
    other_inside = is.greatest other (rest_along a c links inner closed.among kind steps May other rest)

    begun_there : (line : ℕ) (state : State) → Has a.count (label_at other line) state → Begins a first (label_at labels line) (first state)
    begun_there line state has = begins_own a first (label_at labels line) state (other_inside line state has)

    -- and in what is left of them
    other_lies : (line : ℕ) → line < line_count c → (state : State) → Has a.count (label_at other line) state
        → Has a.count (label_at whole line) state
    other_lies =
        by_parts (λ line. (state : State) → Has a.count (label_at other line) state → Has a.count (label_at whole line) state)
        (λ line source e state has. moved (sym (at_kept line source e)) state (other_inside line state has))
        (λ source line e state has.
        let link = outer_link source line e in
        let by = (((rest.rest (along_link source line) link.0).exactly source state).0 has).at_source refl in
        moved (sym (at_loose source line e)) state
        (has_cut a first (linked_set a (label_at labels line)) (label_at labels source) state
        (has_linked a (label_at labels line) state (record {
          source = (loose source line link.0 link.1 state).0 (rest.among source state has);
          other = by.0;
          has = other_inside line by.0 by.1;
          link = by.2;
        }))
        (begun_there source state has)))
        (λ gate within e state has. moved (sym (at_near gate within e)) state (other_inside (gate_line c gate) state has))
        (λ gate within e pins state has.
        let rests = rest.rest (at_gate gate None) (within, sym (unconditioned gate e)) in
        let gives = ((rests.exactly (gate_line c gate) state).0 has).at_gate refl in
        let each = choice_into a.count (label_at other) (label_at whole) (pins_at c gate) pins gives.allowed.at_pins in
        let begun : Begins a first (label_at labels (gate_line c gate)) (first (gate_state a (kind_at c gate) gives.choice)) =
        subst (λ s. Begins a first (label_at labels (gate_line c gate)) (first s)) (sym gives.gives) (begun_there (gate_line c gate) state has) in
        subst (Has a.count (label_at whole (gate_line c gate))) gives.gives (far_has gate within e each begun))

  -- The law of first values: labels that are the hull of the narrowings at all gates and along the inner links, each line with some state,
  -- are at near lines those of the hull under all links.
  pub part_along_links : IsPartOfHull a c (IsLineWithin c near links inner) links kind steps May labels
  part_along_links = record {
    whole = whole;
    hull = record {
      rest = whole_among;
      greatest = λ other rest line state has.
          other_lies other rest line (has_in_circuit a.count c other rest.labelling line state has) state has;
    };
    none_empty = whole_some;
    same = whole_same;
    lies = is.greatest whole (rest_along a c links inner closed.among kind steps May whole whole_among);
  }

-- The law for an engine that narrows the gates inside alone: near gates, and those that are behind the lines to which inner links go. Its
-- labels, each line with some state, are at near lines those of the hull of the whole circuit under all links.
pub part_of_near_hull : (a : StateAlgebra) (c : Circuit) → HasLaws a → (first : State → Bool) → FirstLaws a first → ReadsLines c → IsLoopFree c
    → (near inside : ℕ → Bool) (links inner : LinkList) → AreLinksOf c links → AreLinksOf c inner → IsNear c near links inner
    → ((gate : ℕ) → gate < gate_count c → near gate ≡ true → inside gate ≡ true) → IsClosedUnder c inside inner inner
    → (kind : Kind) (steps : List PinRef) → All (λ step. near step.gate.0 ≡ true) steps → All (λ step. inside step.gate.0 ≡ true) steps
    → (May : ℕ → State → Type 0)
    → ((gate : ℕ) → gate < gate_count c → near gate ≡ false → (state : State) → state.0 < a.count → May (gate_line c gate) state)
    → AreFreeOutside a links inner May
    → (labels : List StateSet) → IsHull a c (IsNarrowingIn c inside inner kind steps) May labels → HasNoEmptySet c labels
    → IsPartOfHull a c (IsLineWithin c near links inner) links kind steps May labels
part_of_near_hull a c laws first tells reads loop_free near inside links inner linked inner_linked closed covers cone kind steps near_steps
    inside_steps May free loose labels is some =
    let part = part_of_linked_hull a c laws reads inside inner inner inner_linked cone kind steps inside_steps May free_outside
    none_loose labels is some in
    let whole = part_along_links a c laws first tells reads loop_free near links inner linked closed kind steps near_steps May free loose
    part.whole part.hull part.none_empty in
    record {
      whole = whole.whole;
      hull = whole.hull;
      none_empty = whole.none_empty;
      same = λ line within. whole.same line within ∙ part.same line (within_cone line within);
      lies = λ line state has. part.lies line state (whole.lies line state has);
    }
  where
    within_cone : (line : ℕ) → IsLineWithin c near links inner line → IsLineWithin c inside inner inner line
    within_cone line of = ⊎_elim
        (λ (source : (line < source_count c) × ((other : ℕ) → IsLink links line other → IsLink inner line other)).
        inl (source.0, (λ other link. link)))
        (λ (gate : (g : ℕ) × (g < gate_count c) × (near g ≡ true) × (line ≡ gate_line c g)).
        inr (gate.0, gate.1, covers gate.0 gate.1 gate.2, gate.3)) of

    free_outside : (gate : ℕ) → gate < gate_count c → inside gate ≡ false → (state : State) → state.0 < a.count
        → May (gate_line c gate) state
    free_outside gate within outside = free gate within
        (⊎_elim (λ (e : near gate ≡ true). absurd (false≢true (sym outside ∙ covers gate within e))) (λ (e : near gate ≡ false). e)
        (cases_Bool (near gate)))

    none_loose : AreFreeOutside a inner inner May
    none_loose source line link outside = absurd (outside link)
