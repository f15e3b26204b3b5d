-- What narrowing at a gate, cut by cut, keeps, and which gates wait or rest then.
use Rattle.std.proofs.Common.{◌≡◌, ◌≢◌, ℕ, zero, suc, ◌+◌, ◌*◌, ◌<◌, ◌≤◌, ◌⊎◌, inl, inr, ⊎_elim, Bool, true, false, List, [], ◌∷◌, ◌++◌, length, replicate, Some, Option, None, refl, sym, ap, ap₂, ◌∙◌, subst, arith, lit<}
use Rattle.std.proofs.Math.Nat.{mul-le-mul_right}
use Rattle.std.specs.List.{All, Contains}
use Rattle.std.specs.Option.{IfSome, IfNone, MatchOption}
use Rattle.std.proofs.lemmas.Bool.{cases_eq, eqb-true, eq-eqb, false≢true}
use Rattle.std.proofs.Math.Dec.{eqb}
use Rattle.std.proofs.lemmas.List.{length-replicate, get_or_default}
use Rattle.std.proofs.lemmas.List.Elements.{All-pop, Contains-get_or}
use Rattle.std.proofs.lemmas.Option.{same_Some}
use Rattle.pd_base.specs.Links.{LinkList, IsLink}
use Rattle.pd_base.specs.declared.ids.GateId.{GateId}
use Rattle.pd_base.specs.declared.ids.LineId.{LineId}
use Rattle.pd_base.specs.declared.ids.PinRef.{PinRef}
use Rattle.pd_base.specs.declared.fault.Kind.{Kind}
use Rattle.netlist.specs.Circuit.{Circuit, gate_count, line_count, gate_line, kind_at, pins_at}
use Rattle.netlist.specs.Lawful.{IsCircuit, ReadsGate, ReadsOn}
use Rattle.netlist.proofs.Evaluation.{map_agree, all_at_place}
use Rattle.state_sets.specs.declared.state.State.{State}
use Rattle.state_sets.specs.declared.state.StateSet.{StateSet}
use Rattle.state_sets.specs.declared.condition.Condition.{Condition}
use Rattle.state_sets.specs.States.{Has, AreWithin, no_states}
use Rattle.state_sets.specs.StateAlgebra.{StateAlgebra}
use Rattle.state_sets.specs.Labellings.{label_at}
use Rattle.state_sets.specs.Narrowing.{GateSets, IsNarrowing, IsLinkNarrowing, IsKeptByLink, GivesAtGate, GivesAtPin, gate_sets, gate_lines}
use Rattle.state_sets.specs.Hulls.{condition_at, IsAtRest}
use Rattle.state_sets.specs.Hulls.Narrowing.{at_gate, along_link}
use Rattle.state_laws.proofs.Narrowing.{kept_of_larger}
use Rattle.state_laws.specs.Cones.{IsNarrowingIn}
use Rattle.state_laws.specs.Sweeps.{KeepsRests}
use Rattle.state_laws.proofs.Idempotent.{HasOwnLines, narrowing_idempotent}
use Rattle.state_laws.proofs.Sweeps.{keeps_one, keeps_on}
use Rattle.hulls.specs.Sets.{Means, set_at}
use Rattle.hulls.proofs.Whole.{gate_narrowed}
use Rattle.hulls.specs.declared.turn.Turn.{Turn}
use Rattle.hulls.specs.Conditions.{Entered}
use Rattle.hulls.specs.Awaiting.{is_inside, gate_turn}
use Rattle.hulls.specs.Boards.{OnBoard, link_turn}
use Rattle.hulls.specs.Falling.{states_left}
use Rattle.hulls.specs.Settling.{RestsAlong, AllDiffer, IsPassed, IsSameAt, Wakes, HasLess, IsShrunk, ArePinsCut, HasCutsWithStates, IsPinEmptied, IsCutTo, RestsAt, IsAwake, IsAwakeBut, IsNarrowed, IsTurn, IsConflict, MayNarrow, EndsTurn}
use Rattle.hulls.specs.Links.{link_at, link_lines}
use Rattle.hulls.proofs.Changing.{cut_shrunk, shrunk_on, some_left, follows_on}
use Rattle.hulls.proofs.Flags.{behind}

module _ (a : StateAlgebra) (c : Circuit) (gate : ℕ) (condition : Option Condition) (old new : List StateSet)
    (same : All (IsSameAt old new) (gate_lines c gate)) where
  parts : All (IsSameAt old new) (pins_at c gate) × (label_at new (gate_line c gate) ≡ label_at old (gate_line c gate))
  parts = All-pop (IsSameAt old new) (gate_lines c gate) (pins_at c gate) (Some (record { 0 = gate_line c gate })) refl same

  sees_same : gate_sets c gate new ≡ gate_sets c gate old
  sees_same =
      ap₂ (λ (p : List StateSet) (o : StateSet). let s : GateSets = record { kind = kind_at c gate; pins = p; own = o } in s)
      (map_agree (λ (l : LineId). label_at new l.0) (λ (l : LineId). label_at old l.0) (pins_at c gate) parts.0) parts.1

  -- a narrowing that left the lines of its gate as they were rests at what it left
  pub rests_after : IsNarrowing a c gate condition old new → IsNarrowing a c gate condition new new
  rests_after narrowed = record {
    lines = refl;
    exactly = λ line state. (
      (λ has. let kept = (narrowed.exactly line state).0 has in record {
        had = has;
        at_gate = λ here. subst (λ s. GivesAtGate a s condition state) (sym sees_same) (kept.at_gate here);
        at_pins = λ pin reads. subst (λ s. GivesAtPin a s condition pin state) (sym sees_same) (kept.at_pins pin reads);
      }),
      λ kept. kept.had,
    );
  }

  -- where the lines of a gate have the same sets, it rests at both labellings
  pub same_rests : IsNarrowing a c gate condition old old → IsNarrowing a c gate condition new new
  same_rests rests = record {
    lines = refl;
    exactly = λ line state. (
      (λ has. record {
        had = has;
        at_gate = λ here.
            let e : label_at new line ≡ label_at old line = ap (label_at new) here ∙ parts.1 ∙ ap (label_at old) (sym here) in
            let kept = (rests.exactly line state).0 (subst (λ set. Has a.count set state) e has) in
            subst (λ s. GivesAtGate a s condition state) (sym sees_same) (kept.at_gate here);
        at_pins = λ pin reads.
            let e : label_at new line ≡ label_at old line = all_at_place (IsSameAt old new) (pins_at c gate) pin (record { 0 = line }) parts.0 reads in
            let kept = (rests.exactly line state).0 (subst (λ set. Has a.count set state) e has) in
            subst (λ s. GivesAtPin a s condition pin state) (sym sees_same) (kept.at_pins pin reads);
      }),
      λ kept. kept.had,
    );
  }

-- a gate that reads its own line is on a loop
loops_on : (c : Circuit) (gate : ℕ) → ReadsGate c gate gate → (count : ℕ) → ReadsOn c (gate ∷ replicate count gate)
loops_on c gate reads zero = tt
loops_on c gate reads (suc count) = (reads, loops_on c gate reads count)

-- the lines of a gate differ whose pins read different lines
own_lines : (c : Circuit) (gate : ℕ) → IsCircuit c → gate < gate_count c → AllDiffer (pins_at c gate) → HasOwnLines c gate
own_lines c gate circuit within differ = record {
  pins_differ = differ;
  not_own = λ pin reads. circuit.loop_free gate within
      (replicate (gate_count c) gate, length-replicate (gate_count c) gate, loops_on c gate (pin, reads) (gate_count c));
}

-- the gate that was narrowed waits or rests: it rests at what its narrowing left where its lines differ, and else its own lines that
-- changed have woken it
passed_awake : (a : StateAlgebra) (c : Circuit) (kind : Kind) (steps : List PinRef) → IsCircuit c → (gate : ℕ) → gate < gate_count c
    → (passed : Option GateId) → IsPassed c gate passed → (old new : List StateSet)
    → IsNarrowing a c gate (condition_at kind steps gate) old new → (waiting : List Turn)
    → (passed ≢ Some (record { 0 = gate }) → Contains waiting (gate_turn gate) ⊎ All (IsSameAt old new) (gate_lines c gate))
    → Contains waiting (gate_turn gate) ⊎ RestsAt a c kind steps new gate
passed_awake a c kind steps circuit gate within None is old new narrowing waiting woken = ⊎_elim
    (λ (waits : Contains waiting (gate_turn gate)). inl waits)
    (λ (same : All (IsSameAt old new) (gate_lines c gate)).
    inr (rests_after a c gate (condition_at kind steps gate) old new same narrowing))
    (woken (λ none. absurd cc))
passed_awake a c kind steps circuit gate within (Some other) is old new narrowing waiting woken =
    inr (narrowing_idempotent a c gate (own_lines c gate circuit within is.1) (condition_at kind steps gate) old new narrowing)

-- it is the one that is narrowed
passed_is : (c : Circuit) (gate : ℕ) (passed : Option GateId) → IsPassed c gate passed → IfSome passed (λ other. other.0 ≡ gate)
passed_is c gate None is = tt
passed_is c gate (Some other) is = is.0

-- a gate other than the one that is narrowed is not passed by
not_passed : (passed : Option GateId) (but : ℕ) → IfSome passed (λ other. other.0 ≡ but) → (gate : ℕ) → gate ≢ but
    → passed ≢ Some (record { 0 = gate })
not_passed None but is gate away same = absurd cc
not_passed (Some other) but is gate away same = away (sym (ap (λ (g : GateId). g.0) (same_Some other (record { 0 = gate }) same)) ∙ is)

module _ (a : StateAlgebra) (links : LinkList) (link : ℕ) (old new : List StateSet) (same : All (IsSameAt old new) (link_lines links link)) where
  abbrev source : ℕ
  source = (link_at links link).0.0

  abbrev line : ℕ
  line = (link_at links link).1.0

  source_same : label_at new source ≡ label_at old source
  source_same = same 0 (link_at links link).0 (lit< tt)

  line_same : label_at new line ≡ label_at old line
  line_same = same 1 (link_at links link).0 (lit< tt)

  -- what a narrowing along a link keeps of old labels it keeps of new ones, where its two lines have the same sets
  kept_same : (at : ℕ) (state : State) → Has a.count (label_at new at) state → IsKeptByLink a source line old at state
      → IsKeptByLink a source line new at state
  kept_same at state had kept = record {
    had = had;
    at_source = λ here. let other = kept.at_source here in
        (other.0, subst (λ (s : StateSet). Has a.count s other.0) (sym line_same) other.1, other.2);
    at_line = λ here. let other = kept.at_line here in
        (other.0, subst (λ (s : StateSet). Has a.count s other.0) (sym source_same) other.1, other.2);
  }

  -- a narrowing along a link that left its lines as they were rests at what it left
  pub link_rests_after : IsLinkNarrowing a source line old new → IsLinkNarrowing a source line new new
  link_rests_after narrowed = record {
    lines = refl;
    exactly = λ at state. ((λ has. kept_same at state has ((narrowed.exactly at state).0 has)), λ kept. kept.had);
  }

  -- and one that rests where they have the same sets rests at both
  pub link_rests_same : IsLinkNarrowing a source line old old → IsLinkNarrowing a source line new new
  link_rests_same rests = record {
    lines = refl;
    exactly = λ at state. (
      (λ has. record {
        had = has;
        at_source = λ here.
            let e : label_at new at ≡ label_at old at = ap (label_at new) here ∙ source_same ∙ ap (label_at old) (sym here) in
            let other = ((rests.exactly at state).0 (subst (λ (s : StateSet). Has a.count s state) e has)).at_source here in
            (other.0, subst (λ (s : StateSet). Has a.count s other.0) (sym line_same) other.1, other.2);
        at_line = λ here.
            let e : label_at new at ≡ label_at old at = ap (label_at new) here ∙ line_same ∙ ap (label_at old) (sym here) in
            let other = ((rests.exactly at state).0 (subst (λ (s : StateSet). Has a.count s state) e has)).at_line here in
            (other.0, subst (λ (s : StateSet). Has a.count s other.0) (sym source_same) other.1, other.2);
      }),
      λ kept. kept.had,
    );
  }

-- a link stands at its place
pub link_stands : (links : LinkList) (link : ℕ) → link < length links → IsLink links (link_at links link).0.0 (link_at links link).1.0
link_stands links link inside = Contains-get_or links link (record { 0 = 0 }, record { 0 = 0 }) inside

module _ (a : StateAlgebra) (c : Circuit) (kind : Kind) (steps : List PinRef) where
  -- gates that rested wait or rest
  gates_on : (but : ℕ) (passed : Option GateId) → IfSome passed (λ other. other.0 ≡ but) → (old new : OnBoard) → new.inside ≡ old.inside
      → Wakes c passed old new → IsAwakeBut a c kind steps but old
      → (gate : ℕ) → gate < gate_count c → is_inside new.inside gate ≡ true → gate ≢ but
      → Contains new.waiting (gate_turn gate) ⊎ RestsAt a c kind steps new.labels gate
  gates_on but passed is_but old new same_inside wakes awake gate within here_new away =
      let here : is_inside old.inside gate ≡ true = ap (λ (flags : List Bool). is_inside flags gate) (sym same_inside) ∙ here_new in
      ⊎_elim
      (λ (waits : Contains new.waiting (gate_turn gate)). inl waits)
      (λ (same : All (IsSameAt old.labels new.labels) (gate_lines c gate)).
      ⊎_elim
      (λ (waits : Contains old.waiting (gate_turn gate)). inl (wakes.stays (gate_turn gate) waits))
      (λ (rests : RestsAt a c kind steps old.labels gate).
      inr (same_rests a c gate (condition_at kind steps gate) old.labels new.labels same rests))
      (awake.gates gate within here away))
      (wakes.woken gate within here (not_passed passed but is_but gate away))

  -- and so do links
  links_on : (but : ℕ) (passed : Option GateId) (old new : OnBoard) → new.links ≡ old.links → Wakes c passed old new
      → IsAwakeBut a c kind steps but old → (link : ℕ) → link < length old.links → (link_turn c link).0 ≢ but
      → Contains new.waiting (link_turn c link) ⊎ RestsAlong a new.links new.labels link
  links_on but passed old new same_links wakes awake link inside away = ⊎_elim
      (λ (waits : Contains new.waiting (link_turn c link)). inl waits)
      (λ (same : All (IsSameAt old.labels new.labels) (link_lines old.links link)).
      ⊎_elim
      (λ (waits : Contains old.waiting (link_turn c link)). inl (wakes.stays (link_turn c link) waits))
      (λ (rests : RestsAlong a old.links old.labels link).
      inr (subst (λ (ls : LinkList). RestsAlong a ls new.labels link) (sym same_links)
      (link_rests_same a old.links link old.labels new.labels same rests)))
      (awake.links link inside away))
      (wakes.links_woken link inside)

  pub awake_on : (but : ℕ) (passed : Option GateId) → IfSome passed (λ other. other.0 ≡ but) → (old new : OnBoard) → new.inside ≡ old.inside
      → new.links ≡ old.links → Wakes c passed old new → IsAwakeBut a c kind steps but old → IsAwakeBut a c kind steps but new
  awake_on but passed is_but old new same_inside same_links wakes awake = record {
    gates = gates_on but passed is_but old new same_inside wakes awake;
    links = λ link inside away. links_on but passed old new same_links wakes awake link
        (subst (λ (ls : LinkList). link < length ls) same_links inside) away;
  }

  module _ (circuit : IsCircuit c) (gate : ℕ) (within : gate < gate_count c) (kept : List StateSet) (given : StateSet) (old : OnBoard)
      (here : is_inside old.inside gate ≡ true) (passed : Option GateId) (is_passed : IsPassed c gate passed)
      (lines : length old.labels ≡ line_count c) (sets : AreWithin a.count old.labels)
      (at_pins : (pin : ℕ) → pin < length (pins_at c gate)
      → Means a.count (set_at kept pin) (GivesAtPin a (gate_sets c gate old.labels) (condition_at kind steps gate) pin))
      (at_gate_set : Means a.count given (GivesAtGate a (gate_sets c gate old.labels) (condition_at kind steps gate))) where
    -- cuts at some pins lose no labels at rest
    pins_keep : (pins : ℕ) → pins ≤ length (pins_at c gate) → (new : OnBoard) → ArePinsCut a.count c passed gate kept pins old new
        → KeepsRests a c (IsNarrowingIn c (is_inside old.inside) old.links kind steps) old.labels new.labels
    pins_keep pins few new cut = record {
      labelling = record { one_each = cut.shrunk.lines ∙ lines; within = cut.shrunk.within };
      inside = λ line state has. ((cut.labels line state).0 has).0;
      keeps = λ other is rest lies line state has.
          let narrowed : IsNarrowing a c gate (condition_at kind steps gate) other other = rest (at_gate gate (condition_at kind steps gate)) (within, here, refl) in
          let is_kept = kept_of_larger a c gate (condition_at kind steps gate) other old.labels lies line state ((narrowed.exactly line state).0 has) in
          (cut.labels line state).1 (is_kept.had, λ pin below reads. (at_pins pin (let b = below in omega arith) state).1 (is_kept.at_pins pin reads));
    }

    pub conflict_at_pin : (line : ℕ) (new : OnBoard) → IsPinEmptied a.count c passed gate kept old new line → IsConflict a c kind steps old new line
    conflict_at_pin line new empty = record {
      narrowed = record {
        keeps = pins_keep empty.pins empty.few new empty.cut;
        inside = empty.cut.shrunk.inside;
        links = empty.cut.shrunk.links;
        follows = empty.cut.shrunk.follows;
      };
      in_circuit = empty.in_circuit;
      none = empty.none;
    }

    module _ (mid new : OnBoard) (pins : HasCutsWithStates a.count c passed gate kept (length (pins_at c gate)) old mid)
        (own : IsCutTo a.count c passed (gate_line c gate) given mid new) where
      own_within : gate_line c gate < length old.labels
      own_within = omega arith

      is_narrowing : IsNarrowing a c gate (condition_at kind steps gate) old.labels new.labels
      is_narrowing = subst (IsNarrowing a c gate (condition_at kind steps gate) old.labels) (sym own.labels)
          (gate_narrowed a c gate (condition_at kind steps gate) old.labels mid.labels kept given pins.cut.shrunk.lines own_within
          at_pins at_gate_set pins.cut.labels)

      shrunk : IsShrunk a.count c passed old new
      shrunk = shrunk_on c passed a.count old mid new pins.cut.shrunk (cut_shrunk c passed a.count (gate_line c gate) given mid new own)

      narrowed : IsNarrowed a c kind steps old new
      narrowed = record {
        keeps = keeps_one a c (IsNarrowingIn c (is_inside old.inside) old.links kind steps) (at_gate gate (condition_at kind steps gate)) (within, here, refl) old.labels new.labels
            (record { one_each = lines; within = sets }) is_narrowing shrunk.within;
        inside = shrunk.inside;
        links = shrunk.links;
        follows = shrunk.follows;
      }

      conflict_at_own : label_at new.labels (gate_line c gate) ≡ no_states → IsConflict a c kind steps old new (gate_line c gate)
      conflict_at_own none = record { narrowed = narrowed; in_circuit = omega arith; none = none }

      -- the gate itself waits, or rests
      awake_here : Contains new.waiting (gate_turn gate) ⊎ RestsAt a c kind steps new.labels gate
      awake_here = passed_awake a c kind steps circuit gate within passed is_passed old.labels new.labels is_narrowing new.waiting
          (λ away. shrunk.wakes.woken gate within here away)

      turn_done : IsAwakeBut a c kind steps gate old → label_at new.labels (gate_line c gate) ≢ no_states → IsTurn a c kind steps old new
      turn_done awake left =
          let awake_but = awake_on gate passed (passed_is c gate passed is_passed) old new shrunk.inside shrunk.links shrunk.wakes awake in
          record {
            narrowed = narrowed;
            awake = record {
              gates = λ other inside here_new. ⊎_elim
                  (λ (same : other ≡ gate). subst (λ (n : ℕ). Contains new.waiting (gate_turn n) ⊎ RestsAt a c kind steps new.labels n) (sym same) awake_here)
                  (λ (away : other ≢ gate). awake_but.gates other inside here_new away)
                  (cases_eq other gate);
              links = λ link inside. awake_but.links link inside (λ same. absurd (omega (arith, same)));
            };
            some = some_left c passed a.count (gate_line c gate) given mid new own pins.some left;
            falls = shrunk.falls;
          }

      pub turn_ends : (told : Option LineId) → IsAwakeBut a c kind steps gate old → IfNone told (label_at new.labels (gate_line c gate) ≢ no_states)
          → IfSome told (λ line. (line.0 ≡ gate_line c gate) × (label_at new.labels line.0 ≡ no_states))
          → MatchOption told (IsTurn a c kind steps old new) (λ line. IsConflict a c kind steps old new line.0)
      turn_ends None awake left emptied = turn_done awake left
      turn_ends (Some line) awake left emptied = subst (IsConflict a c kind steps old new) (sym emptied.0)
          (conflict_at_own (ap (label_at new.labels) (sym emptied.0) ∙ emptied.1))

-- what falls while a board settles: the states of all lines, and then what waits
abbrev pub work_left : ℕ → OnBoard → ℕ
work_left count board = states_left count board.labels * (length board.inside + 1) + length board.waiting

-- a turn of the loop: a gate or link is taken, and what narrowing it does is less
module _ (count : ℕ) (old mid new : OnBoard) (turn : Turn) (first : old.waiting ≡ turn ∷ mid.waiting)
    (same : mid ≡ record old { waiting = mid.waiting }) where
  next_less : work_left count mid < work_left count old
  next_less =
      let e = ap length first in
      let f : work_left count mid ≡ states_left count old.labels * (length old.inside + 1) + length mid.waiting =
      ap (λ (b : OnBoard). states_left count b.labels * (length b.inside + 1) + length mid.waiting) same in
      omega arith

  pub turn_less : new.inside ≡ mid.inside → (new ≡ mid) ⊎ HasLess count mid new → work_left count new < work_left count old
  turn_less inside falls = ⊎_elim
      (λ (still : new ≡ mid). subst (λ (b : OnBoard). work_left count b < work_left count old) (sym still) next_less)
      (λ (less : HasLess count mid new).
      let m = mul-le-mul_right (length mid.inside + 1) less.fewer in
      let e : states_left count new.labels * (length new.inside + 1) ≡ states_left count new.labels * (length mid.inside + 1) =
      ap (λ (flags : List Bool). states_left count new.labels * (length flags + 1)) inside in
      let f : (1 + states_left count new.labels) * (length mid.inside + 1) ≡ (length mid.inside + 1) + states_left count new.labels * (length mid.inside + 1) = omega arith in
      let h = less.few in let l = ap (length {A = Bool}) inside in let i = next_less in
      omega arith)
      falls

module _ (a : StateAlgebra) (c : Circuit) (kind : Kind) (steps : List PinRef) where
  -- what is taken is the only one that neither waits nor rests
  pub awake_taken : (old mid : OnBoard) (turn : Turn) → old.waiting ≡ turn ∷ mid.waiting → mid ≡ record old { waiting = mid.waiting }
      → IsAwake a c kind steps old → IsAwakeBut a c kind steps turn.0 mid
  awake_taken old mid turn first same awake = record {
    gates = λ other within here away. ⊎_elim
        (λ (waits : Contains old.waiting (gate_turn other)). inl (still_waits (gate_turn other) away waits))
        (λ (rests : RestsAt a c kind steps old.labels other).
        inr (subst (λ (l : List StateSet). RestsAt a c kind steps l other) (sym (ap (λ (b : OnBoard). b.labels) same)) rests))
        (awake.gates other within (ap (λ (b : OnBoard). is_inside b.inside other) (sym same) ∙ here));
    links = λ link inside away. ⊎_elim
        (λ (waits : Contains old.waiting (link_turn c link)). inl (still_waits (link_turn c link) away waits))
        (λ (rests : RestsAlong a old.links old.labels link).
        inr (subst (λ (ls : LinkList). RestsAlong a ls mid.labels link) (sym (ap (λ (b : OnBoard). b.links) same))
        (subst (λ (l : List StateSet). RestsAlong a old.links l link) (sym (ap (λ (b : OnBoard). b.labels) same)) rests)))
        (awake.links link (subst (λ (ls : LinkList). link < length ls) (ap (λ (b : OnBoard). b.links) same) inside));
  }
    where
      still_waits : (other : Turn) → other.0 ≢ turn.0 → Contains old.waiting other → Contains mid.waiting other
      still_waits other away waits =
          let stands : Contains (turn ∷ mid.waiting) other = subst (λ (gs : List Turn). Contains gs other) first waits in
          behind turn mid.waiting other (λ is. away (sym (ap (λ (t : Turn). t.0) is))) stands.0 stands.1 stands.2

  pub narrowed_on : (old mid next new : OnBoard) → IsNarrowed a c kind steps old mid → next ≡ record mid { waiting = next.waiting }
      → IsNarrowed a c kind steps next new → IsNarrowed a c kind steps old new
  narrowed_on old mid next new before same after =
      let same_inside : next.inside ≡ old.inside = ap (λ (b : OnBoard). b.inside) same ∙ before.inside in
      let same_links : next.links ≡ old.links = ap (λ (b : OnBoard). b.links) same ∙ before.links in
      record {
        keeps = keeps_on a c (IsNarrowingIn c (is_inside old.inside) old.links kind steps) old.labels mid.labels new.labels before.keeps
            (subst (λ (l : List StateSet). KeepsRests a c (IsNarrowingIn c (is_inside old.inside) old.links kind steps) l new.labels)
            (ap (λ (b : OnBoard). b.labels) same)
            (subst (λ (ls : LinkList). KeepsRests a c (IsNarrowingIn c (is_inside old.inside) ls kind steps) next.labels new.labels)
            same_links
            (subst (λ (flags : List Bool). KeepsRests a c (IsNarrowingIn c (is_inside flags) next.links kind steps) next.labels new.labels)
            same_inside after.keeps)));
        inside = after.inside ∙ same_inside;
        links = after.links ∙ same_links;
        follows = follows_on old mid new before.follows (record {
          more = after.follows.more;
          notes = after.follows.notes ∙ ap (λ (b : OnBoard). b.notes ++ after.follows.more) same;
          back = after.follows.back ∙ ap (λ (b : OnBoard). b.labels) same;
        });
      }

  -- nothing waits, so all gates inside and all links rest
  pub rests_all : (board : OnBoard) → board.waiting ≡ [] → IsAwake a c kind steps board
      → IsAtRest a c (IsNarrowingIn c (is_inside board.inside) board.links kind steps) board.labels
  rests_all board none awake (along_link source line) is_one =
      let at : link_at board.links is_one.0 ≡ (record { 0 = source }, record { 0 = line }) =
      get_or_default board.links is_one.0 _ _ is_one.1 ∙ is_one.2 in
      ⊎_elim
      (λ (waits : Contains board.waiting (link_turn c is_one.0)).
      absurd (let w = waits.1 in let e = ap length none in omega arith))
      (λ (rests : RestsAlong a board.links board.labels is_one.0).
      subst (λ (l : LineId × LineId). IsLinkNarrowing a l.0.0 l.1.0 board.labels board.labels) at rests)
      (awake.links is_one.0 is_one.1)
  rests_all board none awake (at_gate gate condition) is_one = ⊎_elim
      (λ (waits : Contains board.waiting (gate_turn gate)).
      absurd (let w = waits.1 in let e = ap length none in omega arith))
      (λ (rests : RestsAt a c kind steps board.labels gate).
      subst (λ o. IsNarrowing a c gate o board.labels board.labels) (sym is_one.2) rests)
      (awake.gates gate is_one.0 is_one.1)

  -- the same, told with the flags and links of the board that it came from
  pub rests_inside : (from board : OnBoard) → board.inside ≡ from.inside → board.links ≡ from.links → board.waiting ≡ []
      → IsAwake a c kind steps board → IsAtRest a c (IsNarrowingIn c (is_inside from.inside) from.links kind steps) board.labels
  rests_inside from board same same_links none awake =
      subst (λ (ls : LinkList). IsAtRest a c (IsNarrowingIn c (is_inside from.inside) ls kind steps) board.labels) same_links
      (subst (λ (flags : List Bool). IsAtRest a c (IsNarrowingIn c (is_inside flags) board.links kind steps) board.labels) same
      (rests_all board none awake))

  -- what waits does not matter to what was narrowed
  pub narrowed_resting : (old new : OnBoard) → IsNarrowed a c kind steps old new
      → IsNarrowed a c kind steps old (record new { waiting = [] })
  narrowed_resting old new narrowed = record {
    keeps = narrowed.keeps;
    inside = narrowed.inside;
    links = narrowed.links;
    follows = record { more = narrowed.follows.more; notes = narrowed.follows.notes; back = narrowed.follows.back };
  }

-- what a comparison with the empty set tells of a label
pub is_none : (r : Bool) (left label : StateSet) → r ≡ eqb left.0 0 → r ≡ true → left ≡ label → label ≡ no_states
is_none r left label is empty same =
    sym same ∙ ap (λ (n : ℕ). let s : StateSet = record { 0 = n } in s) (eqb-true left.0 0 (sym is ∙ empty))

pub is_some : (r : Bool) (left label : StateSet) → r ≡ eqb left.0 0 → r ≡ false → left ≡ label → label ≢ no_states
is_some r left label is differs same none =
    false≢true (sym differs ∙ is ∙ eq-eqb left.0 0 (ap (λ (s : StateSet). s.0) (same ∙ none)))

-- what is kept, as the code has the labels and the condition
module _ (a : StateAlgebra) (c : Circuit) (gate : ℕ) (seen labels : List StateSet) (same : seen ≡ labels)
    (told condition : Option Condition) (is : told ≡ condition) where
  pub pins_as : (kept : List StateSet)
      → ((pin : ℕ) → pin < length (pins_at c gate) → Means a.count (set_at kept pin) (GivesAtPin a (gate_sets c gate seen) told pin))
      → (pin : ℕ) → pin < length (pins_at c gate) → Means a.count (set_at kept pin) (GivesAtPin a (gate_sets c gate labels) condition pin)
  pins_as kept at_pins pin inside =
      subst (λ (l : List StateSet). Means a.count (set_at kept pin) (GivesAtPin a (gate_sets c gate l) condition pin)) same
      (subst (λ (o : Option Condition). Means a.count (set_at kept pin) (GivesAtPin a (gate_sets c gate seen) o pin)) is (at_pins pin inside))

  pub gate_as : (given : StateSet) → Means a.count given (GivesAtGate a (gate_sets c gate seen) told)
      → Means a.count given (GivesAtGate a (gate_sets c gate labels) condition)
  gate_as given at_gate_set =
      subst (λ (l : List StateSet). Means a.count given (GivesAtGate a (gate_sets c gate l) condition)) same
      (subst (λ (o : Option Condition). Means a.count given (GivesAtGate a (gate_sets c gate seen) o)) is at_gate_set)

-- a gate is narrowed, under what is kept as the code has the labels and the condition
module _ (a : StateAlgebra) (c : Circuit) (on : Entered) (circuit : IsCircuit c) (gate : ℕ) (old : OnBoard) (may : MayNarrow a c on gate old)
    (passed : Option GateId) (is_passed : IsPassed c gate passed) (seen : List StateSet) (same : seen ≡ old.labels)
    (told : Option Condition) (is : told ≡ condition_at on.kind on.steps gate) (kept : List StateSet) (given : StateSet)
    (at_pins : (pin : ℕ) → pin < length (pins_at c gate) → Means a.count (set_at kept pin) (GivesAtPin a (gate_sets c gate seen) told pin))
    (at_gate_set : Means a.count given (GivesAtGate a (gate_sets c gate seen) told)) where
  -- the line of a pin has no state left
  pub ends_at_pin : (line : ℕ) (new : OnBoard) → IsPinEmptied a.count c passed gate kept old new line
      → IsConflict a c on.kind on.steps old new line
  ends_at_pin = conflict_at_pin a c on.kind on.steps circuit gate may.in_circuit kept given old may.inside passed is_passed may.of.lines may.within
      (pins_as a c gate seen old.labels same told (condition_at on.kind on.steps gate) is kept at_pins)
      (gate_as a c gate seen old.labels same told (condition_at on.kind on.steps gate) is given at_gate_set)

  -- the lines of all pins have some, and then the gate's own line is cut
  pub ends_at_own : (mid new : OnBoard) → HasCutsWithStates a.count c passed gate kept (length (pins_at c gate)) old mid
      → IsCutTo a.count c passed (gate_line c gate) given mid new → (line : Option LineId)
      → IfNone line (label_at new.labels (gate_line c gate) ≢ no_states)
      → IfSome line (λ l. (l.0 ≡ gate_line c gate) × (label_at new.labels l.0 ≡ no_states)) → EndsTurn a c on old new line
  ends_at_own mid new pins own line = turn_ends a c on.kind on.steps circuit gate may.in_circuit kept given old may.inside passed is_passed
      may.of.lines may.within
      (pins_as a c gate seen old.labels same told (condition_at on.kind on.steps gate) is kept at_pins)
      (gate_as a c gate seen old.labels same told (condition_at on.kind on.steps gate) is given at_gate_set)
      mid new pins own line may.awake
