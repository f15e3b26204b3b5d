-- Where sources are in one set each and lines of gates in any state, the hull of the narrowings without steps is computed forward, and
-- none of its sets is empty. Each labelling at rest lies in labels that are full or made of their pins' sets. Where a transition is launched
-- with states that the set of the start has, the labels are cut at its source alone.
use Rattle.std.proofs.Common.{◌≡◌, ◌≢◌, ℕ, zero, suc, ◌<◌, ◌^◌, ◌↔◌, ◌⊎◌, inl, inr, ⊎_elim, Bool, true, false, List, [], ◌∷◌, length, map, get_or, Some, None, refl, sym, ap, ◌∙◌, subst, arith, set}
use Rattle.std.specs.List.{All, Contains}
use Rattle.std.proofs.lemmas.Bool.{cases_Bool, cases_eq, false≢true}
use Rattle.std.proofs.lemmas.List.{length-set, get_or-set_same, get_or-set_other}
use Rattle.std.proofs.lemmas.List.Elements.{All-nil, All-set, All-push}
use Rattle.std.proofs.lemmas.Nat.{pow_pos}
use Rattle.pd_base.specs.declared.fault.Direction.{Direction}
use Rattle.pd_base.specs.declared.fault.Kind.{Kind}
use Rattle.pd_base.specs.Links.{LinkList}
use Rattle.pd_base.specs.declared.ids.LineId.{LineId}
use Rattle.pd_base.specs.declared.ids.PinRef.{PinRef}
use Rattle.pd_base.specs.declared.rules.Rules.{Rules}
use Rattle.netlist.specs.Circuit.{Circuit, source_count, gate_count, line_count, gate_line, kind_at, pins_at}
use Rattle.netlist.specs.Lawful.{ReadsLines, IsLoopFree}
use Rattle.netlist.proofs.Evaluation.{map_agree, all_from_places, line_induction}
use Rattle.state_sets.specs.declared.state.State.{State}
use Rattle.state_sets.specs.declared.state.StateSet.{StateSet}
use Rattle.state_sets.specs.States.{Has, no_states, all_states}
use Rattle.state_sets.specs.StateAlgebra.{StateAlgebra, HasLaws}
use Rattle.state_sets.specs.Starts.{MayStart, IsLaunching, IsOtherStart}
use Rattle.state_sets.specs.Labellings.{label_at, IsLabelling, LiesIn}
use Rattle.state_sets.specs.Narrowing.{IsChoice, gate_lines, gate_state}
use Rattle.state_sets.specs.Hulls.{IsNarrowingOf, IsAtRest, IsRestAmong, IsAmong, IsHull, IsEmptied, HasNoEmptySet, HasAt}
use Rattle.state_sets.specs.Hulls.Narrowing.{at_gate, along_link}
use Rattle.state_laws.specs.Cones.{IsClosedBack, IsNarrowingIn, IsLineIn, IsPartOfHull}
use Rattle.state_laws.specs.Forward.{IsForward}
use Rattle.state_laws.proofs.Choices.{choice_into}
use Rattle.state_laws.proofs.Cones.{whole, whole_hull, whole_some, whole_same, made, rest_inside, pins_inside, same_rests, part_of_hull}
use Rattle.state_laws.proofs.Hulls.{hull_once}
use Rattle.state_laws.proofs.Linked.{none_linked}
use Rattle.state_laws.proofs.Sets.{all_have, has_in_circuit}

-- a line stands in a list, or not
behind_first : (first : LineId) (lines : List LineId) (line : ℕ) → first.0 ≢ line → (k : ℕ) → k < length (first ∷ lines)
    → get_or (first ∷ lines) k (record { 0 = line }) ≡ record { 0 = line } → Contains lines (record { 0 = line })
behind_first first lines line away zero inside is = absurd (away (ap (λ (l : LineId). l.0) is))
behind_first first lines line away (suc k) inside is = (k, (let i = inside in omega arith), is)

pub stands_or_not : (lines : List LineId) (line : LineId) → Contains lines line ⊎ ¬ Contains lines line
stands_or_not [] line = inr (λ stands. absurd (let s = stands.1 in omega arith))
stands_or_not (first ∷ lines) line =
    ⊎_elim
    (λ (here : first.0 ≡ line.0). inl (zero, omega arith, ap (λ (n : ℕ). let l : LineId = record { 0 = n } in l) here))
    (λ (away : first.0 ≢ line.0).
    ⊎_elim
    (λ (later : Contains lines line). inl (suc later.0, (let l = later.1 in omega arith), later.2))
    (λ (not : ¬ Contains lines line). inr (λ stands. not (behind_first first lines line.0 away stands.0 stands.1 stands.2)))
    (stands_or_not lines line))
    (cases_eq first.0 line.0)

module _ (a : StateAlgebra) (c : Circuit) (inside : ℕ → Bool) (closed : IsClosedBack c inside) where
  -- the line of a gate outside is none of those of a gate inside
  apart : (gate : ℕ) → inside gate ≡ false → (other : ℕ) → other < gate_count c → inside other ≡ true
      → All (λ line. line.0 ≢ gate_line c gate) (gate_lines c other)
  apart gate outside other within is =
      All-push (λ (line : LineId). line.0 ≢ gate_line c gate) (pins_at c other) (record { 0 = gate_line c other })
      (all_from_places (λ (line : LineId). line.0 ≢ gate_line c gate) (pins_at c other)
      (λ pin line reads here. false≢true (sym outside
      ∙ closed other gate within is (pin, reads ∙ ap (λ (n : ℕ). let l : LineId = record { 0 = n } in Some l) here))))
      (λ here. let same : other ≡ gate = omega arith in false≢true (sym outside ∙ sym (ap inside same) ∙ is))

  -- The hull inside has each state at the line of a gate outside that this may be in.
  pub free_outside : (kind : Kind) (steps : List PinRef) (May : ℕ → State → Type 0) (labels : List StateSet)
      → IsHull a c (IsNarrowingIn c inside [] kind steps) May labels → (gate : ℕ) → gate < gate_count c → inside gate ≡ false
      → ((state : State) → state.0 < a.count → May (gate_line c gate) state)
      → (state : State) → state.0 < a.count → Has a.count (label_at labels (gate_line c gate)) state
  free_outside kind steps May labels is gate within outside free state below =
      is.greatest more (record { labelling = labelling; rest = rests; among = among }) (gate_line c gate) state
      (subst (λ (s : StateSet). Has a.count s state) (sym here) (all_have a.count state below))
    where
      more : List StateSet
      more = set labels (gate_line c gate) (all_states a.count)

      in_labels : gate_line c gate < length labels
      in_labels = omega (arith, is.rest.labelling.one_each)

      here : label_at more (gate_line c gate) ≡ all_states a.count
      here = get_or-set_same labels (gate_line c gate) (all_states a.count) no_states in_labels

      other : (line : ℕ) → line ≢ gate_line c gate → label_at more line ≡ label_at labels line
      other line away = get_or-set_other labels (gate_line c gate) line (all_states a.count) no_states away

      labelling : IsLabelling a.count c more
      labelling = record {
        one_each = length-set labels (gate_line c gate) (all_states a.count) ∙ is.rest.labelling.one_each;
        within = All-set (λ (s : StateSet). s.0 < 2 ^ a.count) labels (gate_line c gate) (all_states a.count)
            (let p = pow_pos a.count in omega arith) is.rest.labelling.within;
      }

      rests : IsAtRest a c (IsNarrowingIn c inside [] kind steps) more
      rests (at_gate g condition) of =
          same_rests a c g condition labels more
          (λ k d k_in. other (get_or (gate_lines c g) k d).0 (apart gate outside g of.0 of.1 k d k_in))
          (is.rest.rest (at_gate g condition) of)
      rests (along_link source line) of = absurd (none_linked source line of)

      among : IsAmong a.count May more
      among line s has = ⊎_elim
          (λ (same : line ≡ gate_line c gate). subst (λ l. May l s) (sym same) (free s has.in_range))
          (λ (away : line ≢ gate_line c gate).
          is.rest.among line s (subst (λ (x : StateSet). Has a.count x s) (other line away) has))
          (cases_eq line (gate_line c gate))

module _ (a : StateAlgebra) (c : Circuit) (laws : HasLaws a) (reads : ReadsLines c) (loop_free : IsLoopFree c)
    (start : StateSet) (some_start : start ≢ no_states) (old : List StateSet) (is_old : IsLabelling a.count c old)
    (sources : (line : ℕ) → line < source_count c → label_at old line ≡ start)
    (gates : (gate : ℕ) → gate < gate_count c → label_at old (gate_line c gate) ≡ all_states a.count) (kind : Kind) where
  abbrev none : ℕ → Bool
  none gate = false

  old_hull : IsHull a c (IsNarrowingIn c none [] kind []) (HasAt a.count old) old
  old_hull = record {
    rest = record { labelling = is_old; rest = rests; among = λ line state has. has };
    greatest = λ other among. among.among;
  }
    where
      rests : IsAtRest a c (IsNarrowingIn c none [] kind []) old
      rests (at_gate gate condition) of = absurd (false≢true of.1)
      rests (along_link source line) of = absurd (none_linked source line of)

  free_gates : (gate : ℕ) → gate < gate_count c → (state : State) → state.0 < a.count → HasAt a.count old (gate_line c gate) state
  free_gates gate within state below =
      subst (λ (s : StateSet). Has a.count s state) (sym (gates gate within)) (all_have a.count state below)

  some_old : (line : ℕ) → IsLineIn c none line → label_at old line ≢ no_states
  some_old line of = ⊎_elim (λ (source : line < source_count c) (e : label_at old line ≡ no_states). some_start (sym (sources line source) ∙ e))
      (λ (gate : (g : ℕ) × (g < gate_count c) × (none g ≡ true) × (line ≡ gate_line c g)). absurd (false≢true gate.2)) of

  -- what the gates make of the start, forward from the sources
  abbrev forward : List StateSet
  forward = whole a c none [] kind [] (HasAt a.count old) refl laws reads loop_free (λ gate other within is reads_it. absurd (false≢true is))
      (All-nil (λ (step : PinRef). none step.gate.0 ≡ true)) (λ gate within outside. free_gates gate within) old old_hull some_old

  forward_hull : IsHull a c (IsNarrowingOf c [] kind []) (HasAt a.count old) forward
  forward_hull = whole_hull a c none [] kind [] (HasAt a.count old) refl laws reads loop_free (λ gate other within is reads_it. absurd (false≢true is))
      (All-nil (λ (step : PinRef). none step.gate.0 ≡ true)) (λ gate within outside. free_gates gate within) old old_hull some_old

  forward_some : HasNoEmptySet c forward
  forward_some = whole_some a c none [] kind [] (HasAt a.count old) refl laws reads loop_free (λ gate other within is reads_it. absurd (false≢true is))
      (All-nil (λ (step : PinRef). none step.gate.0 ≡ true)) (λ gate within outside. free_gates gate within) old old_hull some_old

  forward_same : (line : ℕ) → line < source_count c → label_at forward line ≡ label_at old line
  forward_same line source = whole_same a c none [] kind [] (HasAt a.count old) refl laws reads loop_free
      (λ gate other within is reads_it. absurd (false≢true is)) (All-nil (λ (step : PinRef). none step.gate.0 ≡ true))
      (λ gate within outside. free_gates gate within) old old_hull some_old line (inl source)

  forward_made : (gate : ℕ) → gate < gate_count c → (choice : List State)
      → IsChoice a.count (map (λ pin. label_at forward pin.0) (pins_at c gate)) choice
      → Has a.count (label_at forward (gate_line c gate)) (gate_state a (kind_at c gate) choice)
  forward_made gate within choice each = made a c none [] kind [] (HasAt a.count old) refl laws reads loop_free
      (λ gate other within is reads_it. absurd (false≢true is)) (All-nil (λ (step : PinRef). none step.gate.0 ≡ true))
      (λ gate within outside. free_gates gate within) old old_hull some_old gate within refl choice each

  module _ (inside : ℕ → Bool) (closed : IsClosedBack c inside) where
    -- no line is emptied there
    pub start_keeps : (line : ℕ) → line < line_count c → ¬ IsEmptied a c (IsNarrowingIn c inside [] kind []) (HasAt a.count old) line
    start_keeps line within emptied =
        forward_some line within (emptied forward (rest_inside a c inside [] kind [] (HasAt a.count old) forward forward_hull.rest))

    -- and the hull is computed forward
    pub settled_forward : (labels : List StateSet) → IsHull a c (IsNarrowingIn c inside [] kind []) (HasAt a.count old) labels
        → HasNoEmptySet c labels → IsForward a c inside start labels
    settled_forward labels is some = record {
      labelling = is.rest.labelling;
      sources = λ line source. sym (same line (inl source)) ∙ forward_same line source ∙ sources line source;
      images = λ gate within is_in choice each.
          subst (λ (s : StateSet). Has a.count s (gate_state a (kind_at c gate) choice)) (same (gate_line c gate) (inr (gate, within, is_in, refl)))
          (forward_made gate within choice
          (subst (λ (sets : List StateSet). IsChoice a.count sets choice)
          (map_agree (λ (pin : LineId). label_at labels pin.0) (λ (pin : LineId). label_at forward pin.0) (pins_at c gate)
          (λ k d k_in. sym (same (get_or (pins_at c gate) k d).0 (pins_inside c inside reads closed gate within is_in k d k_in)))) each));
      outside = λ gate within is_out. free_outside a c inside closed kind [] (HasAt a.count old) labels is gate within is_out
          (free_gates gate within);
      rests = rests;
      none_empty = some;
    }
      where
        part : IsPartOfHull a c (IsLineIn c inside) [] kind [] (HasAt a.count old) labels
        part = part_of_hull a c laws reads loop_free inside closed [] refl kind [] (All-nil (λ (step : PinRef). inside step.gate.0 ≡ true))
            (HasAt a.count old) free_gates labels is some

        same : (line : ℕ) → IsLineIn c inside line → label_at forward line ≡ label_at labels line
        same line of =
            ap (λ (l : List StateSet). label_at l line)
            (hull_once a c (IsNarrowingOf c [] kind []) (HasAt a.count old) forward forward_hull part.whole part.hull)
            ∙ part.same line of

        rests : (other : Kind) → IsAtRest a c (IsNarrowingIn c inside [] other []) labels
        rests other (at_gate gate condition) of = is.rest.rest (at_gate gate condition) of
        rests other (along_link source line) of = absurd (none_linked source line of)

-- the line has every state
abbrev IsFullAt : StateAlgebra → List StateSet → ℕ → Type 0
IsFullAt a labels line = (state : State) → state.0 < a.count → Has a.count (label_at labels line) state

-- the gate's line has each state that the gate has of choices out of the sets of its pins' lines
abbrev HasImages : StateAlgebra → Circuit → List StateSet → ℕ → Type 0
HasImages a c labels gate = (choice : List State) → IsChoice a.count (map (λ pin. label_at labels pin.0) (pins_at c gate)) choice
    → Has a.count (label_at labels (gate_line c gate)) (gate_state a (kind_at c gate) choice)

-- Labels that have of each source what it may be in, and of each gate all states or, where it is inside, those of the choices: each
-- labelling at rest, in which lines have only states that they may be in, lies in them.
module _ (a : StateAlgebra) (c : Circuit) (reads : ReadsLines c) (loop_free : IsLoopFree c) (inside : ℕ → Bool) (links : LinkList) (kind : Kind)
    (May : ℕ → State → Type 0) (labels : List StateSet)
    (at_sources : (line : ℕ) → line < source_count c → (state : State) → state.0 < a.count → May line state → Has a.count (label_at labels line) state)
    (at_gates : (gate : ℕ) → gate < gate_count c → IsFullAt a labels (gate_line c gate) ⊎ ((inside gate ≡ true) × HasImages a c labels gate))
    (other : List StateSet) (among : IsRestAmong a c (IsNarrowingIn c inside links kind []) May other) where
  abbrev Lies : ℕ → Type 0
  Lies line = (state : State) → Has a.count (label_at other line) state → Has a.count (label_at labels line) state

  lies_in_image : (gate : ℕ) → gate < gate_count c → inside gate ≡ true → HasImages a c labels gate → All (λ pin. Lies pin.0) (pins_at c gate)
      → Lies (gate_line c gate)
  lies_in_image gate within is_in images pins state has =
      let gives = ((among.rest (at_gate gate None) (within, is_in, refl)).exactly (gate_line c gate) state).0 has in
      let at = gives.at_gate refl in
      subst (Has a.count (label_at labels (gate_line c gate))) at.gives
      (images at.choice (choice_into a.count (label_at other) (label_at labels) (pins_at c gate) pins at.allowed.at_pins))

  lies_at_gate : (gate : ℕ) → gate < gate_count c → All (λ pin. Lies pin.0) (pins_at c gate) → Lies (gate_line c gate)
  lies_at_gate gate within pins = ⊎_elim (λ (full : IsFullAt a labels (gate_line c gate)) (state : State) has. full state has.in_range)
      (λ (image : (inside gate ≡ true) × HasImages a c labels gate). lies_in_image gate within image.0 image.1 pins) (at_gates gate within)

  pub rest_lies : LiesIn a.count other labels
  rest_lies line state has =
      line_induction c reads Lies (λ source within s s_has. at_sources source within s s_has.in_range (among.among source s s_has))
      lies_at_gate loop_free line (has_in_circuit a.count c other among.labelling line state has) state has

-- Where the set of the start has the states that launch the transition, the labels are cut at the source alone.
module _ (a : StateAlgebra) (c : Circuit) (reads : ReadsLines c) (loop_free : IsLoopFree c) (inside : ℕ → Bool) (start : StateSet)
    (base : List StateSet) (forward : IsForward a c inside start base) (rules : Rules) (source : ℕ) (is_source_line : source < source_count c)
    (others : (line : ℕ) → line < source_count c → line ≢ source → (state : State) → state.0 < a.count
    → (IsOtherStart a rules state × Has a.count a.sources state) ↔ Has a.count start state)
    (direction : Direction) (launching : (state : State) → state.0 < a.count → Has a.count a.sources state → IsLaunching a direction state
    → Has a.count start state) (links : LinkList) (kind : Kind) where
  abbrev MayBegin : ℕ → State → Type 0
  MayBegin = MayStart a c rules source direction

  has_start : (line : ℕ) → line < source_count c → (state : State) → state.0 < a.count → MayBegin line state → Has a.count (label_at base line) state
  has_start line is_source state below may =
      subst (λ (s : StateSet). Has a.count s state) (sym (forward.sources line is_source))
      (⊎_elim (λ (here : line ≡ source). launching state below (may.is_source is_source) (may.own here))
      (λ (away : line ≢ source). (others line is_source away state below).0 (may.other is_source away, may.is_source is_source)) (cases_eq line source))

  has_images : (gate : ℕ) → gate < gate_count c
      → IsFullAt a base (gate_line c gate)
      ⊎ ((inside gate ≡ true) × HasImages a c base gate)
  has_images gate within = ⊎_elim (λ (is_in : inside gate ≡ true). inr (is_in, forward.images gate within is_in))
      (λ (is_out : inside gate ≡ false). inl (forward.outside gate within is_out)) (cases_Bool (inside gate))

  module _ (labels : List StateSet) (cut : (line : ℕ) (state : State)
      → HasAt a.count labels line state ↔ (HasAt a.count base line state × (line ≡ source → Has a.count a.sources state × IsLaunching a direction state))) where
    -- a line has only states that it may start in
    cut_among : IsAmong a.count MayBegin labels
    cut_among line state has =
        let had = (cut line state).0 has in record {
          own = λ here. (had.1 here).1;
          is_source = λ below. ⊎_elim (λ (here : line ≡ source). (had.1 here).0)
              (λ (away : line ≢ source). ((others line below away state had.0.in_range).1
              (subst (λ (s : StateSet). Has a.count s state) (forward.sources line below) had.0)).1) (cases_eq line source);
          other = λ is_source away. ((others line is_source away state had.0.in_range).1
              (subst (λ (s : StateSet). Has a.count s state) (forward.sources line is_source) had.0)).0;
        }

    source_of : {line : ℕ} {state : State} → MayBegin line state → line ≡ source → Has a.count a.sources state
    source_of may here = may.is_source (subst (λ (l : ℕ). l < source_count c) (sym here) is_source_line)

    -- and each labelling at rest among these lies in the labels
    cut_keeps : (other : List StateSet) → IsRestAmong a c (IsNarrowingIn c inside links kind []) MayBegin other → LiesIn a.count other labels
    cut_keeps other among line state has = (cut line state).1 (
      rest_lies a c reads loop_free inside links kind MayBegin base has_start has_images other among line state has,
      (λ here. (source_of (among.among line state has) here, (among.among line state has).own here)),
    )

    -- so their hull is that of the start, and what is emptied in them is emptied in the start
    pub cut_hull : (hull : List StateSet) → IsHull a c (IsNarrowingIn c inside links kind []) (HasAt a.count labels) hull
        → IsHull a c (IsNarrowingIn c inside links kind []) MayBegin hull
    cut_hull hull is = record {
      rest = record {
        labelling = is.rest.labelling;
        rest = is.rest.rest;
        among = λ line state has. cut_among line state (is.rest.among line state has);
      };
      greatest = λ other among. is.greatest other
          (record { labelling = among.labelling; rest = among.rest; among = cut_keeps other among });
    }

    pub cut_emptied : (line : ℕ) → IsEmptied a c (IsNarrowingIn c inside links kind []) (HasAt a.count labels) line
        → IsEmptied a c (IsNarrowingIn c inside links kind []) MayBegin line
    cut_emptied line emptied other among =
        emptied other (record { labelling = among.labelling; rest = among.rest; among = cut_keeps other among })
