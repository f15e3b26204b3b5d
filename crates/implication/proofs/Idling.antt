-- What stands by a board: idle labels, which it has wherever its start was not written.
use Rattle.std.proofs.Common.{◌≡◌, ◌≢◌, ℕ, ◌+◌, ◌-◌, ◌<◌, ◌≤◌, ◌^◌, ◌⊎◌, ◌↔◌, inl, inr, ⊎_elim, Bool, true, List, [], ◌∷◌, ◌++◌, length, take, drop, get_or, replicate, Option, Some, None, IfSome, IfNone, refl, sym, ap, ◌∙◌, subst, arith, set}
use Rattle.std.specs.List.{All, Contains}
use Rattle.std.proofs.lemmas.Bool.{cases_lt, cases_eq}
use Rattle.std.proofs.lemmas.List.{take_more, drop_more, take-append-drop, get_or_default, get_or-set_same, get_or-set_other, get_or-replicate, get_or-take, length-replicate, length-set, length-take-le, same_lists}
use Rattle.std.proofs.lemmas.List.Elements.{All-nil, All-cons, All-head, All-set, All-from_get_or, Contains-push_cases, Contains-append_cases, Contains-append_left, Contains-push}
use Rattle.std.proofs.lemmas.Nat.{pow_pos, and_le_l}
use Rattle.pd_base.specs.Links.{LinkList, links_of}
use Rattle.pd_base.specs.declared.fault.Direction.{Direction}
use Rattle.pd_base.specs.declared.fault.Kind.{Kind}
use Rattle.pd_base.specs.declared.ids.LineId.{LineId}
use Rattle.pd_base.specs.declared.ids.PinRef.{PinRef}
use Rattle.pd_base.specs.declared.rules.Rules.{Rules}
use Rattle.pd_base.specs.declared.rules.Rules.TheVariants.{One, Two, Linked}
use Rattle.netlist.specs.Circuit.{Circuit, source_count, gate_count, line_count, gate_line, kind_at, pins_at}
use Rattle.netlist.specs.Lawful.{IsCircuit}
use Rattle.netlist.specs.LinkedPairs.{AreLinksOf}
use Rattle.netlist.specs.declared.op.Op.TheVariants.{And}
use Rattle.netlist.specs.Levels.{level}
use Rattle.netlist.proofs.Evaluation.{gate_line_of, map_agree, all_from_places}
use Rattle.netlist.proofs.RankOrder.{reads_lower}
use Rattle.state_sets.specs.declared.state.State.{State}
use Rattle.state_sets.specs.declared.state.StateSet.{StateSet}
use Rattle.state_sets.specs.States.{Has, AreWithin, no_states, all_states, both_sets}
use Rattle.state_sets.specs.StateAlgebra.{StateAlgebra, HasLaws}
use Rattle.state_sets.specs.Starts.{MayStart, IsLaunching, IsOtherStart}
use Rattle.state_sets.specs.Labellings.{label_at, IsLabelling}
use Rattle.state_sets.specs.Hulls.{IsHull, IsEmptied, HasNoEmptySet, HasAt}
use Rattle.state_sets.specs.Hulls.Narrowing.{at_gate}
use Rattle.state_laws.specs.Cones.{IsClosedBack, IsNarrowingIn}
use Rattle.state_laws.specs.Forward.{IsForward}
use Rattle.state_laws.proofs.Forward.{start_keeps, settled_forward, cut_hull, cut_emptied}
use Rattle.state_laws.proofs.Images.{has_some}
use Rattle.state_laws.proofs.Linked.{linked_source, linked_line}
use Rattle.state_laws.proofs.LinkedStarts.{unit_source, link_rests_forward}
use Rattle.state_sets.specs.Narrowing.{IsLinkNarrowing}
use Rattle.hulls.specs.Links.{link_at}
use Rattle.hulls.proofs.Narrowed.{link_stands}
use Rattle.state_laws.proofs.Sets.{none_has, no_state_at, same_states}
use Rattle.hulls.proofs.Sets.{all_have, both_have, has_both}
use Rattle.undo_trail.specs.Undoing.{undone}
use Rattle.undo_trail.proofs.Undoing.{undone-append, length-undone}
use Rattle.hulls.specs.Awaiting.{is_inside}
use Rattle.hulls.specs.Boards.{OnBoard, IsBoardOf, Follows}
use Rattle.hulls.specs.Settling.{MaySettle, RestsAt}
use Rattle.implication.specs.declared.assumption.Assumption.{Assumption}
use Rattle.implication.specs.declared.assumption.Assumption.TheVariants.{Assumed}
use Rattle.implication.specs.Assumptions.{IsLetBy}
use Rattle.implication.specs.Kept.{AreCutBy, IsNarrowedMore}
use Rattle.implication.specs.Begun.{IsImage, HasBegunWith, AreBegun, IsBegunFrom}
use Rattle.implication.specs.Idling.{Idling, HasOtherStarts, StartsNowhere, IsIdleSet, StandsBy, IsIdleBoard, IsNewBoard, IsLeftAtRest}
use Rattle.implication.specs.ByLevel.{lines_by_level, IsByLevel, AreSameByLevel}
use Rattle.implication.proofs.Launching.{begun_hull, begun_some}

-- a board with the same gates and links, and as many labels, is one of the same circuit
pub still_of : (c : Circuit) (old new : OnBoard) → new.inside ≡ old.inside → new.links ≡ old.links → length new.labels ≡ length old.labels
    → IsBoardOf c old → IsBoardOf c new
still_of c old new inside links lines of = record {
  lines = lines ∙ of.lines;
  gates = ap length inside ∙ of.gates ∙ ap (λ (ls : LinkList). gate_count c + length ls) (sym links);
  few = subst (λ (flags : List Bool). length flags < 2 ^ 32) (sym inside) of.few;
  links = subst (AreLinksOf c) (sym links) of.links;
  links_inside = λ link stands. subst (λ (flags : List Bool). is_inside flags (gate_count c + link) ≡ true) (sym inside)
      (of.links_inside link (subst (λ (ls : LinkList). link < length ls) links stands));
}

-- a new board is one of its circuit
pub new_of : (c : Circuit) → IsCircuit c → (count : ℕ) (board : OnBoard) → IsNewBoard count c board → IsBoardOf c board
new_of c circuit count board is = record {
  lines = ap length is.labels ∙ length-replicate (line_count c) (all_states count);
  gates = let e = ap length is.unlinked in let g = is.gates in omega arith;
  few = let g = is.gates in let f = circuit.few_lines in omega arith;
  links = subst (AreLinksOf c) (sym is.unlinked) (record {
    sources = λ k d inside. absurd (omega (arith, inside));
    lines = λ k d inside. absurd (omega (arith, inside));
    once = λ i j d before inside. absurd (omega (arith, inside));
  });
  links_inside = λ link stands. absurd (let e = ap length is.unlinked in omega (arith, stands, e));
}

-- a board has as many labels as one that follows it
pub as_many : (old new : OnBoard) → Follows old new → length new.labels ≡ length old.labels
as_many old new follows = sym (length-undone follows.more new.labels) ∙ ap length follows.back

-- what stands by a board stands by one with the same labels before all changes
module _ (a : StateAlgebra) (c : Circuit) (rules : Rules) (idling : Idling) (old new : OnBoard) where
  same_start : StandsBy a c rules idling old → undone new.notes new.labels ≡ undone old.notes old.labels → new.inside ≡ old.inside
      → new.links ≡ old.links → StandsBy a c rules idling new
  same_start stands first inside links = record {
    of = still_of c old new inside links
        (sym (length-undone new.notes new.labels) ∙ ap length first ∙ length-undone old.notes old.labels) stands.of;
    closed = subst (λ (flags : List Bool). IsClosedBack c (is_inside flags)) (sym inside) stands.closed;
    start = stands.start;
    is_start = stands.is_start;
    forward = subst (λ (flags : List Bool). IsForward a c (is_inside flags) stands.start idling.labels) (sym inside) stands.forward;
    same = λ line not. ap (λ (labels : List StateSet). label_at labels line.0) first ∙ stands.same line not;
  }

  -- so by one that follows it
  pub stands_on : StandsBy a c rules idling old → Follows old new → new.inside ≡ old.inside → new.links ≡ old.links
      → StandsBy a c rules idling new
  stands_on stands follows inside links =
      same_start stands
      (ap (λ notes. undone notes new.labels) follows.notes ∙ undone-append old.notes follows.more new.labels
      ∙ ap (undone old.notes) follows.back)
      inside links

  -- and by one to which it is led back
  pub stands_back : (mark : ℕ) → StandsBy a c rules idling old → new.notes ≡ take mark old.notes
      → new.labels ≡ undone (drop mark old.notes) old.labels → new.inside ≡ old.inside → new.links ≡ old.links
      → StandsBy a c rules idling new
  stands_back mark stands notes labels inside links =
      same_start stands
      (ap (λ ns. undone ns new.labels) notes ∙ ap (undone (take mark old.notes)) labels
      ∙ sym (undone-append (take mark old.notes) (drop mark old.notes) old.labels)
      ∙ ap (λ ns. undone ns old.labels) (take-append-drop mark old.notes))
      inside links

module _ (a : StateAlgebra) (c : Circuit) (launched : StateSet) where
  -- no line has begun yet
  pub begun_none : (lines : List LineId) (board : OnBoard) → AreWithin a.count board.labels → AreBegun a c launched (take 0 lines) board board
  begun_none lines board within = record {
    board = refl;
    one_each = refl;
    within = within;
    each = λ line stands. absurd (let s = stands.1 in omega arith);
    same = λ line not. refl;
  }

  -- the same lines in another order have begun
  pub begun_ranked : (lines : List LineId) (ranked : List (ℕ × LineId)) → AreSameByLevel c lines ranked → (old new : OnBoard)
      → AreBegun a c launched (lines_by_level ranked) old new → AreBegun a c launched lines old new
  begun_ranked lines ranked are old new begun = record {
    board = begun.board;
    one_each = begun.one_each;
    within = begun.within;
    each = λ line stands. begun.each line ((are.same line).0 stands);
    same = λ line not. begun.same line (λ stands. not ((are.same line).1 stands));
  }

  -- one line more begins: those that have begun are on no higher level, so that they do not read it
  module _ (circuit : IsCircuit c) (lines : List LineId) (in_circuit : All (λ line. line.0 < line_count c) lines) (by_level : IsByLevel c lines)
      (index : ℕ) (in_lines : index < length lines) (old mid new : OnBoard) (old_lines : length old.labels ≡ line_count c)
      (before : AreBegun a c launched (take index lines) old mid) (line_here : LineId) (at_here : get_or lines index (record { 0 = 0 }) ≡ line_here)
      (first : StateSet) (first_within : first.0 < 2 ^ a.count) (begins : HasBegunWith a c launched mid.labels line_here.0 first)
      (wrote : new ≡ record mid { labels = set mid.labels line_here.0 first }) where
    lines_are : take (index + 1) lines ≡ take index lines ++ line_here ∷ []
    lines_are =
        take_more lines index (record { 0 = 0 }) in_lines
        ∙ ap (λ (line : LineId). take index lines ++ line ∷ []) at_here

    abbrev with_line : List StateSet
    with_line = set mid.labels line_here.0 first

    labels_are : new.labels ≡ with_line
    labels_are = ap (λ (b : OnBoard). b.labels) wrote

    in_mid : line_here.0 < length mid.labels
    in_mid =
        let inside = in_circuit index (record { 0 = 0 }) in_lines in
        omega (arith, inside, ap (λ (line : LineId). line.0) at_here, before.one_each, old_lines)

    at_others : (line : ℕ) → line ≢ line_here.0 → label_at new.labels line ≡ label_at mid.labels line
    at_others line away =
        ap (λ (ls : List StateSet). label_at ls line) labels_are
        ∙ get_or-set_other mid.labels line_here.0 line first no_states away

    at_line : label_at new.labels line_here.0 ≡ first
    at_line =
        ap (λ (ls : List StateSet). label_at ls line_here.0) labels_are
        ∙ get_or-set_same mid.labels line_here.0 first no_states in_mid

    -- a line on no higher level begins with the same set as before
    stays_begun : (line : ℕ) (chosen : StateSet) → level c line ≤ level c line_here.0 → HasBegunWith a c launched mid.labels line chosen
        → HasBegunWith a c launched new.labels line chosen
    stays_begun line chosen low begun = record {
      source = begun.source;
      gate = λ gate within is.
          subst (λ (sets : List StateSet). IsImage a (kind_at c gate) sets chosen)
          (sym (map_agree (λ (pin : LineId). label_at new.labels pin.0) (λ (pin : LineId). label_at mid.labels pin.0) (pins_at c gate)
          (all_from_places (λ (pin : LineId). label_at new.labels pin.0 ≡ label_at mid.labels pin.0) (pins_at c gate)
          (λ place pin reads. at_others pin.0
          (λ here. absurd (omega (
            arith,
            reads_lower c circuit gate place pin within reads,
            ap (level c) is,
            ap (level c) here,
            low,
          )))))))
          (begun.gate gate within is);
    }

    into_front : (line : LineId) → Contains (take index lines) line → Contains (take (index + 1) lines) line
    into_front line stands = subst (λ (ls : List LineId). Contains ls line) (sym lines_are)
        (Contains-append_left (take index lines) (line_here ∷ []) line stands)

    into_here : Contains (take (index + 1) lines) line_here
    into_here = subst (λ (ls : List LineId). Contains ls line_here) (sym lines_are)
        (Contains-push (take index lines) line_here)

    split : (line : LineId) → Contains (take (index + 1) lines) line → Contains (take index lines) line ⊎ (line_here ≡ line)
    split line stands = Contains-push_cases (take index lines) line_here line
        (subst (λ (ls : List LineId). Contains ls line) lines_are stands)

    -- a line in front is on no higher level
    front_low : (line : LineId) → Contains (take index lines) line → level c line.0 ≤ level c line_here.0
    front_low line stands =
        let earlier : stands.0 < index = omega (arith, stands.1, length-take-le index lines (omega arith)) in
        let at : get_or lines stands.0 line ≡ line = sym (get_or-take index lines stands.0 line earlier) ∙ stands.2 in
        omega (
          arith,
          by_level stands.0 index line (omega arith) in_lines,
          ap (λ (l : LineId). level c l.0) at,
          ap (λ (l : LineId). level c l.0) (get_or_default lines index line (record { 0 = 0 }) in_lines ∙ at_here),
        )

    begun_here : HasBegunWith a c launched new.labels line_here.0 (label_at new.labels line_here.0)
    begun_here = subst (HasBegunWith a c launched new.labels line_here.0) (sym at_line) (stays_begun line_here.0 first (omega arith) begins)

    begun_each : (line : LineId) → Contains (take (index + 1) lines) line → HasBegunWith a c launched new.labels line.0 (label_at new.labels line.0)
    begun_each line stands = ⊎_elim
        (λ (here : line.0 ≡ line_here.0).
        subst (λ (l : ℕ). HasBegunWith a c launched new.labels l (label_at new.labels l)) (sym here) begun_here)
        (λ (away : line.0 ≢ line_here.0). ⊎_elim
        (λ (front : Contains (take index lines) line).
        subst (HasBegunWith a c launched new.labels line.0) (sym (at_others line.0 away))
        (stays_begun line.0 (label_at mid.labels line.0) (front_low line front) (before.each line front)))
        (λ (is : line_here ≡ line). absurd (away (sym (ap (λ (l : LineId). l.0) is))))
        (split line stands))
        (cases_eq line.0 line_here.0)

    pub begun_more : AreBegun a c launched (take (index + 1) lines) old new
    begun_more = record {
      board = wrote
          ∙ ap (λ (b : OnBoard). let n : OnBoard = record b { labels = with_line } in n) before.board
          ∙ ap (λ (ls : List StateSet). let n : OnBoard = record old { labels = ls } in n) (sym labels_are);
      one_each = ap length labels_are ∙ length-set mid.labels line_here.0 first ∙ before.one_each;
      within = subst (AreWithin a.count) (sym labels_are)
          (All-set (λ (s : StateSet). s.0 < 2 ^ a.count) mid.labels line_here.0 first first_within before.within);
      each = begun_each;
      same = λ line not.
          at_others line.0 (λ here. not (subst (Contains (take (index + 1) lines)) (λ i. record { 0 = sym here i }) into_here))
          ∙ before.same line (λ stands. not (into_front line stands));
    }

module _ (a : StateAlgebra) (laws : HasLaws a) (rules : Rules) where
  some_states : all_states a.count ≢ no_states
  some_states none = none_has a.count (a.unit And) (subst (λ (s : StateSet). Has a.count s (a.unit And)) none
      (all_have a.count (a.unit And) (laws.unit_within And)))

  module _ (others : StateSet) (means : (state : State) → Has a.count others state ↔ (Has a.count a.sources state × IsOtherStart a rules state)) where
    pub empty_nowhere : others ≡ no_states → StartsNowhere a rules
    empty_nowhere none state below is =
        none_has a.count state (subst (λ (s : StateSet). Has a.count s state) none ((means state).1 (is.1, is.0)))

    -- where some state is left, a source may start
    pub some_somewhere : others.0 < 2 ^ a.count → others ≢ no_states → StartsNowhere a rules → ⊥
    some_somewhere within some nowhere =
        let found = has_some a.count others within some in
        let starts = (means found.0).0 found.1 in nowhere found.0 found.1.in_range (starts.1, starts.0)

    -- where no source may start, the idle set is that of all states, and else that of those in which it may
    pub set_of_all : others ≡ no_states → IsIdleSet a rules (all_states a.count)
    set_of_all none = record { some = some_states; starts = inr (empty_nowhere none) }

    pub set_of_others : others ≢ no_states → IsIdleSet a rules others
    set_of_others some = record {
      some = some;
      starts = inl (λ state below. ((λ is. (means state).1 (is.1, is.0)), λ has. let m = (means state).0 has in (m.1, m.0)));
    }

module _ (a : StateAlgebra) (c : Circuit) (rules : Rules) (inside : ℕ → Bool) (links : LinkList) (kind : Kind) (source : LineId)
    (is_source : source.0 < source_count c) (direction : Direction) where
  abbrev May : ℕ → State → Type 0
  May = MayStart a c rules source.0 direction

  -- where no state launches the transition, the source is emptied
  pub unlaunched_emptied : (launched : StateSet)
      → ((state : State) → Has a.count launched state ↔ (Has a.count a.sources state × IsLaunching a direction state)) → launched ≡ no_states
      → IsEmptied a c (IsNarrowingIn c inside links kind []) May source.0
  unlaunched_emptied launched means none labels is =
      no_state_at a.count c labels is.labelling source.0
      (λ state has. none_has a.count state (subst (λ (s : StateSet). Has a.count s state) none
      ((means state).1 ((is.among source.0 state has).is_source is_source, (is.among source.0 state has).own refl))))

  -- where other sources may start in no state, each is emptied
  pub stuck_emptied : (other : ℕ) → other < source_count c → other ≢ source.0 → StartsNowhere a rules
      → IsEmptied a c (IsNarrowingIn c inside links kind []) May other
  stuck_emptied other within away nowhere labels is =
      no_state_at a.count c labels is.labelling other
      (λ state has. nowhere state has.in_range ((is.among other state has).other within away, (is.among other state has).is_source within))

-- Where the states that launch the transition are not all among those in which sources start, there are no links.
pub forward_unlinked : (a : StateAlgebra) (rules : Rules) (start launched : StateSet) → IsIdleSet a rules start
    → start.0 < 2 ^ a.count → launched.0 < 2 ^ a.count → both_sets start launched ≢ launched
    → ((state : State) → Has a.count launched state → Has a.count a.sources state) → links_of rules ≡ []
forward_unlinked a One start launched is within small differs sources = refl
forward_unlinked a Two start launched is within small differs sources = refl
forward_unlinked a (Linked links) start launched is within small differs sources = absurd (differs
    (same_states a.count (both_sets start launched) launched (let e = and_le_l start.0 launched.0 in omega arith) small
    (λ state has. (both_have a.count start launched state (both_sets start launched) refl has).1)
    (λ state has. has_both a.count start launched state (both_sets start launched) refl (⊎_elim
    (λ (starts : HasOtherStarts a (Linked links) start). (starts state has.in_range).0 (tt, sources state has))
    (λ (nowhere : StartsNowhere a (Linked links)). absurd (nowhere state has.in_range (tt, sources state has)))
    is.starts) has)))

-- Where there is a link inside, sources start in the states of a source.
linked_starts : (a : StateAlgebra) → HasLaws a → (rules : Rules) (start : StateSet) → IsIdleSet a rules start → (inner : LinkList)
    → (links_of rules ≡ [] → inner ≡ []) → (link : ℕ) → link < length inner → (state : State) → state.0 < a.count
    → Has a.count a.sources state ↔ Has a.count start state
linked_starts a laws One start is inner unlinked link inside state below = absurd (let e = ap length (unlinked refl) in omega (arith, e, inside))
linked_starts a laws Two start is inner unlinked link inside state below = absurd (let e = ap length (unlinked refl) in omega (arith, e, inside))
linked_starts a laws (Linked links) start is inner unlinked link inside state below = ⊎_elim
    (λ (starts : HasOtherStarts a (Linked links) start). (
      (λ has. (starts state below).0 (tt, has)),
      (λ has. ((starts state below).1 has).1),
    ))
    (λ (nowhere : StartsNowhere a (Linked links)).
    absurd (nowhere (a.unit And) (laws.unit_within And) (tt, unit_source a laws And)))
    is.starts

-- a board that has the labels computed forward, with nothing noted or reached, is idle
pub idle_board : (a : StateAlgebra) (c : Circuit) (rules : Rules) (first board : OnBoard) (start : StateSet) → IsIdleSet a rules start
    → IsClosedBack c (is_inside first.inside) → (labels : List StateSet) → IsForward a c (is_inside first.inside) start labels
    → IsBoardOf c board → board.inside ≡ first.inside → board.notes ≡ [] → board.waiting ≡ [] → board.labels ≡ labels
    → (idling : Idling) → idling.labels ≡ labels → idling.reached ≡ [] → IsIdleBoard a c rules idling board
idle_board a c rules first board start is_start closed labels forward of inside unnoted at_rest has idling same nothing = record {
  stands = record {
    of = of;
    closed = subst (λ (flags : List Bool). IsClosedBack c (is_inside flags)) (sym inside) closed;
    start = start;
    is_start = is_start;
    forward = subst (λ (flags : List Bool). IsForward a c (is_inside flags) start idling.labels) (sym inside)
        (subst (IsForward a c (is_inside first.inside) start) (sym same) forward);
    same = λ line not. ap (λ ns. label_at (undone ns board.labels) line.0) unnoted
        ∙ ap (λ (ls : List StateSet). label_at ls line.0) (has ∙ sym same);
  };
  unnoted = unnoted;
  at_rest = at_rest;
  nothing_reached = nothing;
}

-- labels that agree at each line are the same
pub same_labels : (old new : List StateSet) → length old ≡ length new → ((line : ℕ) → line < length old → label_at old line ≡ label_at new line)
    → old ≡ new
same_labels old new one_each same =
    same_lists old new one_each (λ k d in_old. get_or_default old k d no_states in_old ∙ same k in_old
    ∙ sym (get_or_default new k d no_states (omega arith)))

-- A scope begins on an idle board.
module _ (a : StateAlgebra) (laws : HasLaws a) (c : Circuit) (circuit : IsCircuit c) (rules : Rules) (idling : Idling) (old : OnBoard)
    (idle : IsIdleBoard a c rules idling old) (source : LineId) (is_source : source.0 < source_count c) (direction : Direction)
    (launched : StateSet) (launched_within : launched.0 < 2 ^ a.count)
    (launches : (state : State) → Has a.count launched state ↔ (Has a.count a.sources state × IsLaunching a direction state))
    (stuck : StartsNowhere a rules → (line : ℕ) → line < source_count c → line ≡ source.0) where
  had : (line : LineId) → label_at old.labels line.0 ≡ label_at idling.labels line.0
  had line =
      ap (λ ns. label_at (undone ns old.labels) line.0) (sym idle.unnoted)
      ∙ idle.stands.same line (λ stands. let s : Contains [] line = subst (λ (ls : List LineId). Contains ls line) idle.nothing_reached stands in
      omega (arith, s.1))

  others : (line : ℕ) → line < source_count c → line ≢ source.0 → (state : State) → state.0 < a.count
      → (IsOtherStart a rules state × Has a.count a.sources state) ↔ Has a.count idle.stands.start state
  others line within away state below = ⊎_elim
      (λ (has : HasOtherStarts a rules idle.stands.start). has state below)
      (λ (nowhere : StartsNowhere a rules). absurd (away (stuck nowhere line within)))
      idle.stands.is_start.starts

  is_idle : old.labels ≡ idling.labels
  is_idle = same_labels old.labels idling.labels (idle.stands.of.lines ∙ sym idle.stands.forward.labelling.one_each)
      (λ line within. had (record { 0 = line }))

  -- the sets are within the states
  pub idle_within : AreWithin a.count old.labels
  idle_within = subst (AreWithin a.count) (sym is_idle) idle.stands.forward.labelling.within

  -- where the idle label of the source has not all states that launch the transition, there are no links
  pub unlinked_from : (links_of rules ≡ [] → old.links ≡ []) → both_sets (label_at old.labels source.0) launched ≢ launched → old.links ≡ []
  unlinked_from links differs =
      let is_start : label_at old.labels source.0 ≡ idle.stands.start = had source ∙ idle.stands.forward.sources source.0 is_source in
      links
      (forward_unlinked a rules idle.stands.start launched idle.stands.is_start
      (subst (λ (s : StateSet). s.0 < 2 ^ a.count) is_start
      (idle_within source.0 no_states (let w = idle.stands.of.lines in omega arith)))
      launched_within (subst (λ (s : StateSet). both_sets s launched ≢ launched) is_start differs)
      (λ state has. ((launches state).0 has).0))

  -- Where the idle label of the source has all states that launch the transition, the source need only be cut to these.
  module _ (all : both_sets (label_at old.labels source.0) launched ≡ launched) (kind : Kind) (steps : List PinRef) (no_steps : steps ≡ []) where
    -- the board is ready to be narrowed on
    pub idle_ready : (links_of rules ≡ [] → old.links ≡ []) → MaySettle a c kind steps old
    idle_ready unlinked = record {
      of = idle.stands.of;
      labelling = subst (IsLabelling a.count c) (sym is_idle) idle.stands.forward.labelling;
      some = subst (HasNoEmptySet c) (sym is_idle) idle.stands.forward.none_empty;
      awake = record {
        gates = λ gate within is. inr (subst (λ (s : List PinRef). RestsAt a c kind s old.labels gate) (sym no_steps)
            (subst (λ (ls : List StateSet). RestsAt a c kind [] ls gate) (sym is_idle)
            (idle.stands.forward.rests kind (at_gate gate None) (within, is, refl))));
        links = λ link inside.
            let two = link_at old.links link in
            let is_link = link_stands old.links link inside in
            let is_start = linked_starts a laws rules idle.stands.start idle.stands.is_start old.links unlinked link inside in
            inr (subst (λ (ls : List StateSet). IsLinkNarrowing a two.0.0 two.1.0 ls ls) (sym is_idle)
            (link_rests_forward a laws c circuit (is_inside old.inside) idle.stands.start idling.labels idle.stands.forward
            (λ state has. (is_start state has.in_range).0 has) (λ state has. (is_start state has.in_range).1 has) two.0.0 two.1.0
            (linked_source c old.links idle.stands.of.links two.0.0 two.1.0 is_link)
            (linked_line c old.links idle.stands.of.links two.0.0 two.1.0 is_link)));
      };
    }

    launching : (state : State) → state.0 < a.count → Has a.count a.sources state → IsLaunching a direction state
        → Has a.count idle.stands.start state
    launching state below has is =
        let had_both = subst (λ (set : StateSet). Has a.count set state) (sym all) ((launches state).1 (has, is)) in
        subst (λ (set : StateSet). Has a.count set state) (had source ∙ idle.stands.forward.sources source.0 is_source)
        (both_have a.count (label_at old.labels source.0) launched state (both_sets (label_at old.labels source.0) launched) refl had_both).0

    abbrev IsLet : ℕ → State → Assumption → Type 0
    IsLet line state = IsLetBy a.count line state

    -- the labels are cut at the source alone
    cut_there : (first : List StateSet) → AreCutBy a.count (Assumed source launched ∷ []) old.labels first → (line : ℕ) (state : State)
        → HasAt a.count first line state ↔ (HasAt a.count idling.labels line state × (line ≡ source.0 → Has a.count a.sources state × IsLaunching a direction state))
    cut_there first cut line state = (
      (λ has. let was = (cut line state).0 has in (
        subst (λ (ls : List StateSet). HasAt a.count ls line state) is_idle was.0,
        λ here. (launches state).0 (All-head (IsLet line state) (Assumed source launched) [] was.1 here),
      )),
      λ both. (cut line state).1 (
        subst (λ (ls : List StateSet). HasAt a.count ls line state) (sym is_idle) both.0,
        All-cons (IsLet line state) (Assumed source launched) [] (λ here. (launches state).1 (both.1 here))
            (All-nil (IsLet line state)),
      ),
    )

    module _ (after : OnBoard) where
      -- the hull is that of the start
      pub cut_begun_hull : (answer : Option LineId) → IsNarrowedMore a c (Assumed source launched) kind steps old after answer
          → IfNone answer (IsHull a c (IsNarrowingIn c (is_inside old.inside) old.links kind []) (MayStart a c rules source.0 direction) after.labels)
      cut_begun_hull None narrowed =
          cut_hull a c circuit.reads_lines circuit.loop_free (is_inside old.inside) idle.stands.start idling.labels idle.stands.forward rules
          source.0 is_source others direction launching old.links kind narrowed.first (cut_there narrowed.first narrowed.cut) after.labels
          (subst (λ (s : List PinRef). IsHull a c (IsNarrowingIn c (is_inside old.inside) old.links kind s) (HasAt a.count narrowed.first) after.labels)
          no_steps narrowed.settled.hull)
      cut_begun_hull (Some line) narrowed = tt

      pub cut_begun_emptied : (answer : Option LineId) → IsNarrowedMore a c (Assumed source launched) kind steps old after answer
          → IfSome answer (λ line. (line.0 < line_count c)
          × IsEmptied a c (IsNarrowingIn c (is_inside old.inside) old.links kind []) (MayStart a c rules source.0 direction) line.0)
      cut_begun_emptied None narrowed = tt
      cut_begun_emptied (Some line) narrowed = (
        narrowed.settled.emptied.0,
        cut_emptied a c circuit.reads_lines circuit.loop_free (is_inside old.inside) idle.stands.start idling.labels idle.stands.forward rules
            source.0 is_source others direction launching old.links kind narrowed.first (cut_there narrowed.first narrowed.cut) line.0
            (subst (λ (s : List PinRef). IsEmptied a c (IsNarrowingIn c (is_inside old.inside) old.links kind s) (HasAt a.count narrowed.first) line.0)
            no_steps narrowed.settled.emptied.1),
      )

  -- else each line reached gets the set with which it begins
  module _ (unlinked : old.links ≡ []) (some : launched ≢ no_states) (reached : List LineId) (new : OnBoard)
      (is : IsBegunFrom a c source.0 launched reached old new) where
    begun : AreBegun a c launched reached old new
    begun = is.begun

    new_labelling : IsLabelling a.count c new.labels
    new_labelling = record { one_each = begun.one_each ∙ idle.stands.of.lines; within = begun.within }

    same : (line : LineId) → ¬ Contains reached line → label_at new.labels line.0 ≡ label_at idling.labels line.0
    same line not = begun.same line not ∙ had line

    -- this is the hull of the start
    pub launched_hull : (kind : Kind)
        → IsHull a c (IsNarrowingIn c (is_inside old.inside) old.links kind []) (MayStart a c rules source.0 direction) new.labels
    launched_hull kind =
        subst (λ (ls : LinkList). IsHull a c (IsNarrowingIn c (is_inside old.inside) ls kind []) (MayStart a c rules source.0 direction) new.labels)
        (sym unlinked)
        (begun_hull a laws c circuit (is_inside old.inside) idle.stands.start idling.labels idle.stands.forward rules source.0 is_source others
        direction launched launched_within some launches reached is.reached is.all_inside new.labels new_labelling begun.each same kind)

    pub launched_some : HasNoEmptySet c new.labels
    launched_some =
        begun_some a laws c circuit (is_inside old.inside) idle.stands.start idling.labels idle.stands.forward rules source.0 is_source others
        direction launched launched_within some launches reached is.reached is.all_inside new.labels new_labelling begun.each same

    inside_same : new.inside ≡ old.inside
    inside_same = ap (λ (b : OnBoard). b.inside) begun.board

    links_same : new.links ≡ old.links
    links_same = ap (λ (b : OnBoard). b.links) begun.board

    -- and the idle labels stand by it
    pub launched_stands : StandsBy a c rules (record { labels = idling.labels; reached = reached }) new
    launched_stands = record {
      of = still_of c old new inside_same links_same begun.one_each idle.stands.of;
      closed = subst (λ (flags : List Bool). IsClosedBack c (is_inside flags)) (sym inside_same) idle.stands.closed;
      start = idle.stands.start;
      is_start = idle.stands.is_start;
      forward = subst (λ (flags : List Bool). IsForward a c (is_inside flags) idle.stands.start idling.labels) (sym inside_same)
          idle.stands.forward;
      same = λ line not.
          ap (λ ns. label_at (undone ns new.labels) line.0) (ap (λ (b : OnBoard). b.notes) begun.board ∙ idle.unnoted) ∙ same line not;
    }

    pub launched_board : IsLeftAtRest old new
    launched_board = record {
      inside = inside_same;
      links = links_same;
      lines = begun.one_each;
      at_rest = ap (λ (b : OnBoard). b.waiting) begun.board ∙ idle.at_rest;
    }

-- a board with other labels, where these are the labels wanted
pub board_with : (old new : OnBoard) (labels : List StateSet) → new ≡ record old { labels = new.labels } → new.labels ≡ labels
    → new ≡ record old { labels = labels }
board_with old new labels same is = same ∙ ap (λ (ls : List StateSet). let b : OnBoard = record old { labels = ls } in b) is

-- one of the lines reached gets its label back, and those behind it are left
pub given_back : (labels old : List StateSet) (lines : List LineId) (index : ℕ) → index < length lines → (line : LineId)
    → get_or lines index (record { 0 = 0 }) ≡ line → line.0 < length old
    → ((other : LineId) → ¬ Contains (drop index lines) other → label_at old other.0 ≡ label_at labels other.0)
    → (other : LineId) → ¬ Contains (drop (index + 1) lines) other
    → label_at (set old line.0 (label_at labels line.0)) other.0 ≡ label_at labels other.0
given_back labels old lines index in_lines line at_line in_old same other not = ⊎_elim
    (λ (here : other.0 ≡ line.0).
    ap (label_at (set old line.0 (label_at labels line.0))) here
    ∙ get_or-set_same old line.0 (label_at labels line.0) no_states in_old ∙ ap (label_at labels) (sym here))
    (λ (away : other.0 ≢ line.0).
    get_or-set_other old line.0 other.0 (label_at labels line.0) no_states away
    ∙ same other (λ stands. ⊎_elim
    (λ (first : Contains (line ∷ []) other). ⊎_elim
    (λ (nowhere : Contains [] other). omega (arith, nowhere.1))
    (λ (is : line ≡ other). away (sym (ap (λ (l : LineId). l.0) is)))
    (Contains-push_cases [] line other first))
    not
    (Contains-append_cases (line ∷ []) (drop (index + 1) lines) other
    (subst (λ (ls : List LineId). Contains ls other)
    (drop_more lines index (record { 0 = 0 }) in_lines ∙ ap (λ (l : LineId). l ∷ drop (index + 1) lines) at_line) stands))))
    (cases_eq other.0 line.0)

-- where the sources of a new board get a set, it settles to the labels that are computed forward
module _ (a : StateAlgebra) (laws : HasLaws a) (c : Circuit) (circuit : IsCircuit c) (start : StateSet) (within : start.0 < 2 ^ a.count)
    (some : start ≢ no_states) (first old : OnBoard) (full : first.labels ≡ replicate (line_count c) (all_states a.count))
    (wrote : old ≡ record first { labels = old.labels }) (one_each : length old.labels ≡ length first.labels)
    (sources : (line : ℕ) → line < source_count c → label_at old.labels line ≡ start)
    (gates : (line : ℕ) → source_count c ≤ line → label_at old.labels line ≡ label_at first.labels line)
    (closed : IsClosedBack c (is_inside first.inside)) (kind : Kind) (steps : List PinRef) (no_steps : steps ≡ []) where
  full_at_gate : (gate : ℕ) → gate < gate_count c → label_at old.labels (gate_line c gate) ≡ all_states a.count
  full_at_gate gate below =
      gates (gate_line c gate) (omega arith)
      ∙ ap (λ (ls : List StateSet). label_at ls (gate_line c gate)) full
      ∙ get_or-replicate (line_count c) (gate_line c gate) (all_states a.count) no_states (omega arith)

  lines : length old.labels ≡ line_count c
  lines = one_each ∙ ap length full ∙ length-replicate (line_count c) (all_states a.count)

  is_old : IsLabelling a.count c old.labels
  is_old = record {
    one_each = lines;
    within = All-from_get_or (λ (set : StateSet). set.0 < 2 ^ a.count) old.labels no_states
        (λ line in_old. ⊎_elim
        (λ (below : line < source_count c). subst (λ (set : StateSet). set.0 < 2 ^ a.count) (sym (sources line below)) within)
        (λ (above : source_count c ≤ line).
        subst (λ (l : ℕ). (label_at old.labels l).0 < 2 ^ a.count) (gate_line_of c line above)
        (subst (λ (set : StateSet). set.0 < 2 ^ a.count) (sym (full_at_gate (line - source_count c) (omega (arith, lines, in_old))))
        (omega (arith, pow_pos a.count))))
        (cases_lt line (source_count c)));
  }

  as_first : (P : (ℕ → Bool) → List PinRef → Type 0) → P (is_inside old.inside) steps → P (is_inside first.inside) []
  as_first P is =
      subst (λ (flags : List Bool). P (is_inside flags) []) (ap (λ (b : OnBoard). b.inside) wrote)
      (subst (P (is_inside old.inside)) no_steps is)

  pub idle_forward : (answer : Option LineId) (labels : List StateSet)
      → IfNone answer (IsHull a c (IsNarrowingIn c (is_inside old.inside) [] kind steps) (HasAt a.count old.labels) labels)
      → IfNone answer (HasNoEmptySet c labels)
      → IfSome answer (λ line. (line.0 < line_count c)
      × IsEmptied a c (IsNarrowingIn c (is_inside old.inside) [] kind steps) (HasAt a.count old.labels) line.0)
      → IsForward a c (is_inside first.inside) start labels
  idle_forward None labels hull none_empty emptied =
      settled_forward a c laws circuit.reads_lines circuit.loop_free start some old.labels is_old sources full_at_gate kind
      (is_inside first.inside) closed labels
      (as_first (λ inside s. IsHull a c (IsNarrowingIn c inside [] kind s) (HasAt a.count old.labels) labels) hull) none_empty
  idle_forward (Some line) labels hull none_empty emptied =
      absurd (start_keeps a c laws circuit.reads_lines circuit.loop_free start some old.labels is_old sources full_at_gate kind
      (is_inside first.inside) closed line.0 emptied.0
      (as_first (λ inside s. IsEmptied a c (IsNarrowingIn c inside [] kind s) (HasAt a.count old.labels) line.0) emptied.1))
