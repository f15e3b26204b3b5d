-- A transition is launched at a source, and each line that the source reaches has what its gate makes of the sets of its pins' lines: such
-- labels are the hull of the start, and none of their sets is empty.
use Rattle.std.proofs.Common.{◌≡◌, ◌≢◌, ℕ, ◌<◌, ◌≤◌, ◌^◌, ◌↔◌, ◌⊎◌, inl, inr, ⊎_elim, Bool, true, false, List, [], map, get_or, None, refl, sym, ◌∙◌, subst, arith}
use Rattle.std.specs.List.{All, Contains}
use Rattle.std.proofs.lemmas.Bool.{cases_Bool, cases_eq}
use Rattle.std.proofs.lemmas.List.Elements.{All-contains, All-push}
use Rattle.pd_base.specs.declared.fault.Direction.{Direction}
use Rattle.pd_base.specs.declared.fault.Kind.{Kind}
use Rattle.pd_base.specs.declared.ids.LineId.{LineId}
use Rattle.pd_base.specs.declared.rules.Rules.{Rules}
use Rattle.netlist.specs.Circuit.{Circuit, source_count, gate_count, line_count, gate_line, kind_at, pins_at}
use Rattle.netlist.specs.Lawful.{IsCircuit}
use Rattle.netlist.proofs.Evaluation.{map_agree, all_from_places, line_induction}
use Rattle.state_sets.specs.declared.state.State.{State}
use Rattle.state_sets.specs.declared.state.StateSet.{StateSet}
use Rattle.state_sets.specs.States.{Has, no_states}
use Rattle.state_sets.specs.StateAlgebra.{StateAlgebra, HasLaws}
use Rattle.state_sets.specs.Starts.{MayStart, IsLaunching, IsOtherStart}
use Rattle.state_sets.specs.Labellings.{label_at, IsLabelling}
use Rattle.state_sets.specs.Narrowing.{IsChoice, IsNarrowing, gate_state}
use Rattle.state_sets.specs.Hulls.{IsAtRest, IsAmong, IsHull, HasNoEmptySet}
use Rattle.state_sets.specs.Hulls.Narrowing.{at_gate, along_link}
use Rattle.state_laws.specs.Cones.{IsNarrowingIn, IsLineIn}
use Rattle.state_laws.specs.Forward.{IsForward, AreReached}
use Rattle.state_laws.proofs.Choices.{some_choice, choice_with}
use Rattle.state_laws.proofs.Cones.{same_rests}
use Rattle.state_laws.proofs.Forward.{stands_or_not, rest_lies}
use Rattle.state_laws.proofs.Images.{has_some}
use Rattle.state_laws.proofs.Linked.{none_linked}
use Rattle.state_laws.proofs.Sets.{none_has, label_within}
use Rattle.implication.specs.Begun.{IsImage, HasBegunWith}

module _ (a : StateAlgebra) (laws : HasLaws a) (c : Circuit) (circuit : IsCircuit c) (inside : ℕ → Bool) (start : StateSet)
    (base : List StateSet) (forward : IsForward a c inside start base) (rules : Rules) (source : ℕ) (is_source : source < source_count c)
    (others : (line : ℕ) → line < source_count c → line ≢ source → (state : State) → state.0 < a.count
    → (IsOtherStart a rules state × Has a.count a.sources state) ↔ Has a.count start state)
    (direction : Direction) (launched : StateSet) (launched_within : launched.0 < 2 ^ a.count) (launched_some : launched ≢ no_states)
    (launches : (state : State) → Has a.count launched state ↔ (Has a.count a.sources state × IsLaunching a direction state))
    (reached : List LineId) (of : AreReached c inside source reached) (all_inside : All (λ line. IsLineIn c inside line.0) reached)
    (labels : List StateSet) (labelling : IsLabelling a.count c labels)
    (each : (line : LineId) → Contains reached line → HasBegunWith a c launched labels line.0 (label_at labels line.0))
    (same : (line : LineId) → ¬ Contains reached line → label_at labels line.0 ≡ label_at base line.0) where
  abbrev May : ℕ → State → Type 0
  May = MayStart a c rules source direction

  abbrev line_of : ℕ → LineId
  line_of line = record { 0 = line }

  abbrev IsReached : ℕ → Type 0
  IsReached line = Contains reached (line_of line)

  abbrev pin_sets : ℕ → List StateSet
  pin_sets gate = map (λ pin. label_at labels pin.0) (pins_at c gate)

  -- a line is reached or not
  by_reach : {P : Type 0} (line : ℕ) → (IsReached line → P) → (¬ IsReached line → P) → P
  by_reach line at elsewhere = ⊎_elim at elsewhere (stands_or_not reached (line_of line))

  own_set : label_at labels source ≡ launched
  own_set = (each (line_of source) of.own).source is_source

  -- another source is not reached
  not_reached : (line : ℕ) → line < source_count c → line ≢ source → ¬ IsReached line
  not_reached line below away stands = ⊎_elim away (λ (above : source_count c ≤ line). absurd (omega arith))
      (All-contains (λ (l : LineId). (l.0 ≡ source) ⊎ (source_count c ≤ l.0)) reached (line_of line) of.behind stands)

  -- the gate of a line reached is inside
  reached_inside : (gate : ℕ) → IsReached (gate_line c gate) → inside gate ≡ true
  reached_inside gate stands =
      ⊎_elim (λ (below : gate_line c gate < source_count c). absurd (omega arith))
      (λ (at : (g : ℕ) × (g < gate_count c) × (inside g ≡ true) × (gate_line c gate ≡ gate_line c g)).
      let one = at.3 in let is : at.0 ≡ gate = omega arith in subst (λ g. inside g ≡ true) is at.2)
      (All-contains (λ (l : LineId). IsLineIn c inside l.0) reached (line_of (gate_line c gate)) all_inside stands)

  image_at : (gate : ℕ) → gate < gate_count c → IsReached (gate_line c gate)
      → IsImage a (kind_at c gate) (pin_sets gate) (label_at labels (gate_line c gate))
  image_at gate within stands = (each (line_of (gate_line c gate)) stands).gate gate within refl

  -- each line has some state
  abbrev HasState : ℕ → Type 0
  HasState line = (state : State) × Has a.count (label_at labels line) state

  as_before : (line : ℕ) → line < line_count c → ¬ IsReached line → HasState line
  as_before line within not =
      subst (λ (set : StateSet). (state : State) × Has a.count set state) (sym (same (line_of line) not))
      (has_some a.count (label_at base line) (label_within a.count c base forward.labelling line) (forward.none_empty line within))

  source_has : (line : ℕ) → line < source_count c → HasState line
  source_has line below = by_reach line
      (λ stands.
      subst (λ (set : StateSet). (state : State) × Has a.count set state) (sym ((each (line_of line) stands).source below))
      (has_some a.count launched launched_within launched_some))
      (as_before line (omega arith))

  gate_has : (gate : ℕ) → gate < gate_count c → All (λ pin. HasState pin.0) (pins_at c gate) → HasState (gate_line c gate)
  gate_has gate within pins = by_reach (gate_line c gate)
      (λ stands.
      let some = some_choice a.count (label_at labels) (pins_at c gate) pins in
      let state = gate_state a (kind_at c gate) some.0 in
      (state, (image_at gate within stands state).1 (record { choice = some.0; each = some.1; makes = refl })))
      (as_before (gate_line c gate) (omega arith))

  has_state : (line : ℕ) → line < line_count c → HasState line
  has_state = line_induction c circuit.reads_lines HasState source_has gate_has circuit.loop_free

  pub begun_some : HasNoEmptySet c labels
  begun_some line within =
      let has = has_state line within in
      λ none. none_has a.count has.0 (subst (λ (set : StateSet). Has a.count set has.0) none has.1)

  pins_some : (gate : ℕ) → gate < gate_count c → All (λ pin. HasState pin.0) (pins_at c gate)
  pins_some gate within i d in_pins = has_state (get_or (pins_at c gate) i d).0 (circuit.reads_lines gate within i d in_pins)

  -- a gate whose line has what the gate makes rests
  image_rests : (gate : ℕ) → gate < gate_count c → IsImage a (kind_at c gate) (pin_sets gate) (label_at labels (gate_line c gate))
      → IsNarrowing a c gate None labels labels
  image_rests gate within image = record {
    lines = refl;
    exactly = λ line state. (
      (λ has. record {
        had = has;
        at_gate = λ here.
            let own : Has a.count (label_at labels (gate_line c gate)) state = subst (λ l. Has a.count (label_at labels l) state) here has in
            let made = (image state).0 own in
            record {
              choice = made.choice;
              allowed = record {
                at_pins = made.each;
                at_gate = subst (Has a.count (label_at labels (gate_line c gate))) (sym made.makes) own;
                meets = tt;
              };
              gives = made.makes;
            };
        at_pins = λ pin reads_pin.
            let with = choice_with a.count (label_at labels) (pins_at c gate) (pins_some gate within) pin (line_of line) reads_pin state has in
            record {
              choice = with.0;
              allowed = record {
                at_pins = with.1;
                at_gate = (image (gate_state a (kind_at c gate) with.0)).1 (record { choice = with.0; each = with.1; makes = refl });
                meets = tt;
              };
              gives = with.2;
            };
      }),
      λ kept. kept.had,
    );
  }

  -- the sets of a gate's pins, where its line is not reached
  pins_same : (gate : ℕ) → gate < gate_count c → inside gate ≡ true → ¬ IsReached (gate_line c gate)
      → All (λ pin. label_at labels pin.0 ≡ label_at base pin.0) (pins_at c gate)
  pins_same gate within is_in not = all_from_places (λ (pin : LineId). label_at labels pin.0 ≡ label_at base pin.0) (pins_at c gate)
      (λ place pin reads_pin. same pin (λ stands. not (of.readers gate place pin within is_in reads_pin stands)))

  gate_rests : (kind : Kind) (gate : ℕ) → gate < gate_count c → inside gate ≡ true → IsNarrowing a c gate None labels labels
  gate_rests kind gate within is_in = by_reach (gate_line c gate)
      (λ stands. image_rests gate within (image_at gate within stands))
      (λ not. same_rests a c gate None base labels
      (All-push (λ (line : LineId). label_at labels line.0 ≡ label_at base line.0) (pins_at c gate) (line_of (gate_line c gate))
      (pins_same gate within is_in not) (same (line_of (gate_line c gate)) not))
      (forward.rests kind (at_gate gate None) (within, is_in, refl)))

  rests : (kind : Kind) → IsAtRest a c (IsNarrowingIn c inside [] kind []) labels
  rests kind (at_gate gate condition) is =
      subst (λ o. IsNarrowing a c gate o labels labels) (sym is.2) (gate_rests kind gate is.0 is.1)
  rests kind (along_link from line) is = absurd (none_linked from line is)

  started : (line : ℕ) → line < source_count c → line ≢ source → (state : State) → Has a.count (label_at labels line) state
      → IsOtherStart a rules state × Has a.count a.sources state
  started line below away state has =
      let base_has : Has a.count (label_at base line) state =
      subst (λ (set : StateSet). Has a.count set state) (same (line_of line) (not_reached line below away)) has in
      (others line below away state has.in_range).1
      (subst (λ (set : StateSet). Has a.count set state) (forward.sources line below) base_has)

  -- a line has only states that it may start in
  among : IsAmong a.count May labels
  among line state has = record {
    is_source = λ below. ⊎_elim
        (λ (here : line ≡ source).
        ((launches state).0 (subst (λ (set : StateSet). Has a.count set state) own_set
        (subst (λ (l : ℕ). Has a.count (label_at labels l) state) here has))).0)
        (λ (away : line ≢ source). (started line below away state has).1)
        (cases_eq line source);
    own = λ here.
        ((launches state).0 (subst (λ (set : StateSet). Has a.count set state) own_set
        (subst (λ (l : ℕ). Has a.count (label_at labels l) state) here has))).1;
    other = λ below away. (started line below away state has).0;
  }

  -- a source has the states that it may start in
  at_sources : (line : ℕ) → line < source_count c → (state : State) → state.0 < a.count → May line state → Has a.count (label_at labels line) state
  at_sources line below state in_range may = ⊎_elim
      (λ (here : line ≡ source).
      subst (λ (l : ℕ). Has a.count (label_at labels l) state) (sym here)
      (subst (λ (set : StateSet). Has a.count set state) (sym own_set) ((launches state).1 (may.is_source below, may.own here))))
      (λ (away : line ≢ source).
      subst (λ (set : StateSet). Has a.count set state)
      (sym (forward.sources line below) ∙ sym (same (line_of line) (not_reached line below away)))
      ((others line below away state in_range).0 (may.other below away, may.is_source below)))
      (cases_eq line source)

  -- a gate inside has what it makes of its pins' lines
  images : (gate : ℕ) → gate < gate_count c → inside gate ≡ true → (choice : List State) → IsChoice a.count (pin_sets gate) choice
      → Has a.count (label_at labels (gate_line c gate)) (gate_state a (kind_at c gate) choice)
  images gate within is_in choice chosen = by_reach (gate_line c gate)
      (λ stands. (image_at gate within stands (gate_state a (kind_at c gate) choice)).1
      (record { choice = choice; each = chosen; makes = refl }))
      (λ not. subst (λ (set : StateSet). Has a.count set (gate_state a (kind_at c gate) choice)) (sym (same (line_of (gate_line c gate)) not))
      (forward.images gate within is_in choice
      (subst (λ (sets : List StateSet). IsChoice a.count sets choice)
      (map_agree (λ (pin : LineId). label_at labels pin.0) (λ (pin : LineId). label_at base pin.0) (pins_at c gate)
      (pins_same gate within is_in not)) chosen)))

  at_gates : (gate : ℕ) → gate < gate_count c
      → ((state : State) → state.0 < a.count → Has a.count (label_at labels (gate_line c gate)) state)
      ⊎ ((inside gate ≡ true) × ((choice : List State) → IsChoice a.count (pin_sets gate) choice
      → Has a.count (label_at labels (gate_line c gate)) (gate_state a (kind_at c gate) choice)))
  at_gates gate within = ⊎_elim (λ (is_in : inside gate ≡ true). inr (is_in, images gate within is_in))
      (λ (is_out : inside gate ≡ false). by_reach (gate_line c gate)
      (λ stands. let is_in = reached_inside gate stands in inr (is_in, images gate within is_in))
      (λ not. inl (λ state below. subst (λ (set : StateSet). Has a.count set state) (sym (same (line_of (gate_line c gate)) not))
      (forward.outside gate within is_out state below))))
      (cases_Bool (inside gate))

  -- so the labels are the hull of the start
  pub begun_hull : (kind : Kind) → IsHull a c (IsNarrowingIn c inside [] kind []) May labels
  begun_hull kind = record {
    rest = record { labelling = labelling; rest = rests kind; among = among };
    greatest = λ other is. rest_lies a c circuit.reads_lines circuit.loop_free inside [] kind May labels at_sources at_gates other is;
  }
