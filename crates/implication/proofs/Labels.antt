-- Labels under some assumptions, cut by one more and settled, are the labels under all.
use Rattle.std.proofs.Common.{◌≡◌, ℕ, ◌<◌, List, [], ◌∷◌, ◌++◌, length, set, All, Option, Some, None, IfSome, IfNone, refl, subst, arith}
use Rattle.std.proofs.lemmas.List.Elements.{All-nil, All-cons, All-push, All-take, All-drop}
use Rattle.std.proofs.Math.Seq.{take-append_seam, drop-append_seam}
use Rattle.pd_base.specs.declared.ids.LineId.{LineId}
use Rattle.pd_base.specs.declared.ids.PinRef.{PinRef}
use Rattle.pd_base.specs.declared.fault.Kind.{Kind}
use Rattle.netlist.specs.Circuit.{line_count}
use Rattle.state_sets.specs.declared.state.State.{State}
use Rattle.state_sets.specs.declared.state.StateSet.{StateSet}
use Rattle.state_sets.specs.States.{both_sets}
use Rattle.state_sets.specs.StateAlgebra.{StateAlgebra}
use Rattle.state_sets.specs.Labellings.{label_at}
use Rattle.state_sets.specs.Starts.{MayStart}
use Rattle.state_sets.specs.Hulls.{Narrowing, HasAt, IsHull, IsEmptied, IsRestAmong, HasNoEmptySet}
use Rattle.state_laws.specs.Cones.{IsNarrowingIn}
use Rattle.state_laws.proofs.Cones.{widens_by_steps_in}
use Rattle.state_laws.proofs.Hulls.{Allows, hull_of_same, emptied_if_wider, widens_by_states}
use Rattle.hulls.proofs.Cuts.{has_after_cut, had_before_cut, kept_by_cut}
use Rattle.hulls.specs.Awaiting.{is_inside}
use Rattle.implication.specs.declared.assumption.Assumption.{Assumption}
use Rattle.implication.specs.declared.assumption.Assumption.TheVariants.{Entered, Assumed}
use Rattle.implication.specs.Assumptions.{entered_pins, MayUnder, IsLetBy}
use Rattle.implication.specs.Kept.{Outset, AreCutBy, IsSettledFrom, IsOpenHull, AreLabelsUnder}
use Rattle.implication.proofs.Entering.{entered_append}

-- what holds of all holds of the first ones, and of the rest
all_front : {X : Type 0} (P : X → Type 0) (xs ys : List X) → All P (xs ++ ys) → All P xs
all_front P xs ys all = subst (All P) (take-append_seam xs ys) (All-take P (length xs) (xs ++ ys) all)

pub all_back : {X : Type 0} (P : X → Type 0) (xs ys : List X) → All P (xs ++ ys) → All P ys
all_back P xs ys all = subst (All P) (drop-append_seam xs ys) (All-drop P (length xs) (xs ++ ys) all)

all_head : {X : Type 0} (P : X → Type 0) (x : X) (xs : List X) → All P (x ∷ xs) → P x
all_head P x xs all = all 0 x (grind arith)

module _ (count : ℕ) where
  -- a pin entered cuts nothing
  pub cut_by_entered : (pin : PinRef) (labels : List StateSet) → AreCutBy count (Entered pin ∷ []) labels labels
  cut_by_entered pin labels line state =
      ((λ has. (has, All-cons (IsLetBy count line state) (Entered pin) [] tt (All-nil (IsLetBy count line state)))), (λ both. both.0))

  -- a set assumed of a line cuts its label
  pub cut_by_assumed : (own : LineId) (set_assumed : StateSet) (old : List StateSet) → own.0 < length old
      → AreCutBy count (Assumed own set_assumed ∷ []) old (set old own.0 (both_sets (label_at old own.0) set_assumed))
  cut_by_assumed own to old within line state =
      let cut = both_sets (label_at old own.0) to in
      let Let = IsLetBy count line state in (
        (λ has. (
          had_before_cut old own.0 within cut count to refl line state has,
          All-cons Let (Assumed own to) [] (λ here. kept_by_cut old own.0 within cut count to refl line state has here) (All-nil Let),
        )),
        (λ both. has_after_cut old own.0 within cut count to refl line state both.0
            (all_head Let (Assumed own to) [] both.1)),
      )

module _ (a : StateAlgebra) (from : Outset) where
  abbrev May : List Assumption → ℕ → State → Type 0
  May = MayUnder a from.net from.rules from.begun

  abbrev Inside : List Assumption → Narrowing → Type 0
  Inside list = IsNarrowingIn from.net (is_inside from.inside) from.inner from.begun.kind (entered_pins list)

  -- labels settled from others are the labels under the assumptions, if the hull and the emptied lines of the others are those under them
  settled_from : (list : List Assumption) (first : List StateSet)
      → ((hull : List StateSet) → IsHull a from.net (Inside list) (HasAt a.count first) hull → IsHull a from.net (Inside list) (May list) hull)
      → ((line : ℕ) → IsEmptied a from.net (Inside list) (HasAt a.count first) line → IsEmptied a from.net (Inside list) (May list) line)
      → (kind : Kind) (steps : List PinRef) → kind ≡ from.begun.kind → steps ≡ entered_pins list
      → (labels : List StateSet) (answer : Option LineId) → IsSettledFrom a from.net from.inside from.inner kind steps first labels answer
      → AreLabelsUnder a from list labels answer
  settled_from list first hulls empties kind steps same_kind same_steps labels None settled =
      let P : Kind → Type 0 = λ k. IsHull a from.net (IsNarrowingIn from.net (is_inside from.inside) from.inner k steps) (HasAt a.count first) labels in
      let Q : List PinRef → Type 0 =
      λ s. IsHull a from.net (IsNarrowingIn from.net (is_inside from.inside) from.inner from.begun.kind s) (HasAt a.count first) labels in
      record { hull = hulls labels (subst Q same_steps (subst P same_kind settled.hull)); none_empty = settled.none_empty }
  settled_from list first hulls empties kind steps same_kind same_steps labels (Some line) settled =
      let P : Kind → Type 0 = λ k. IsEmptied a from.net (IsNarrowingIn from.net (is_inside from.inside) from.inner k steps) (HasAt a.count first) line.0 in
      let Q : List PinRef → Type 0 =
      λ s. IsEmptied a from.net (IsNarrowingIn from.net (is_inside from.inside) from.inner from.begun.kind s) (HasAt a.count first) line.0 in
      record {
        in_circuit = settled.emptied.0;
        emptied = empties line.0 (subst Q same_steps (subst P same_kind settled.emptied.1));
      }

  module _ (before : List Assumption) (entry : Assumption) (old first : List StateSet)
      (open_ : IsOpenHull a from before old) (cuts : AreCutBy a.count (entry ∷ []) old first) where
    abbrev list : List Assumption
    list = before ++ entry ∷ []

    -- what lines may be in under all, they may be in under those before
    may_before : (line : ℕ) (state : State) → May list line state → May before line state
    may_before line state may =
        record { start = may.start; assumed = all_front (IsLetBy a.count line state) before (entry ∷ []) may.assumed }

    -- labels at rest under all are at rest under those before
    rest_before : (labels : List StateSet) → IsRestAmong a from.net (Inside list) (May list) labels
        → IsRestAmong a from.net (Inside before) (May before) labels
    rest_before labels is =
        let P : List PinRef → Type 0 =
        λ s. IsRestAmong a from.net (IsNarrowingIn from.net (is_inside from.inside) from.inner from.begun.kind s) (May before) labels in
        widens_by_steps_in a from.net (is_inside from.inside) from.inner from.begun.kind (entered_pins before) (entered_pins (entry ∷ [])) (May before)
        labels
        (subst P (entered_append before (entry ∷ [])) (record {
          labelling = is.labelling;
          rest = is.rest;
          among = λ line state has. may_before line state (is.among line state has);
        }))

    -- so they lie in the old labels, and in those that are cut
    into_cut : (labels : List StateSet) → IsRestAmong a from.net (Inside list) (May list) labels
        → IsRestAmong a from.net (Inside list) (HasAt a.count first) labels
    into_cut labels is = record {
      labelling = is.labelling;
      rest = is.rest;
      among = λ line state has. (cuts line state).1 (
        open_.hull.greatest labels (rest_before labels is) line state has,
        all_back (IsLetBy a.count line state) before (entry ∷ []) (is.among line state has).assumed,
      );
    }

    -- and the states that are left there are such as the lines may be in
    out_of_cut : (labels : List StateSet) → IsRestAmong a from.net (Inside list) (HasAt a.count first) labels
        → IsRestAmong a from.net (Inside list) (May list) labels
    out_of_cut labels is = record {
      labelling = is.labelling;
      rest = is.rest;
      among = λ line state has.
          let both = (cuts line state).0 (is.among line state has) in
          let may = open_.hull.rest.among line state both.0 in record {
            start = may.start;
            assumed = All-push (IsLetBy a.count line state) before entry may.assumed (all_head (IsLetBy a.count line state) entry [] both.1);
          };
    }

    hull_more : (hull : List StateSet) → IsHull a from.net (Inside list) (HasAt a.count first) hull
        → IsHull a from.net (Inside list) (May list) hull
    hull_more hull is = record { rest = out_of_cut hull is.rest; greatest = λ other among. is.greatest other (into_cut other among) }

    emptied_more : (line : ℕ) → IsEmptied a from.net (Inside list) (HasAt a.count first) line → IsEmptied a from.net (Inside list) (May list) line
    emptied_more line emptied labels among = emptied labels (into_cut labels among)

    -- settled, they are the labels under all
    pub settled_more : (kind : Kind) (steps : List PinRef) → kind ≡ from.begun.kind → steps ≡ entered_pins list
        → (labels : List StateSet) (answer : Option LineId) → IsSettledFrom a from.net from.inside from.inner kind steps first labels answer
        → AreLabelsUnder a from list labels answer
    settled_more = settled_from list first hull_more emptied_more

  -- where nothing is assumed yet, lines may be in what they may be in at the start
  abbrev Start : ℕ → State → Type 0
  Start = MayStart a from.net from.rules from.begun.source.0 from.begun.direction

  start_may : Allows a from.net Start (May [])
  start_may line state within below may = record { start = may; assumed = All-nil (IsLetBy a.count line state) }

  may_start : Allows a from.net (May []) Start
  may_start line state within below may = may.start

  -- so the hull of the start is that under no assumptions
  pub labels_at_start : (kind : Kind) → kind ≡ from.begun.kind → (labels : List StateSet) (answer : Option LineId)
      → IfNone answer (IsHull a from.net (IsNarrowingIn from.net (is_inside from.inside) from.inner kind []) Start labels)
      → IfNone answer (HasNoEmptySet from.net labels)
      → IfSome answer (λ line. (line.0 < line_count from.net)
      × IsEmptied a from.net (IsNarrowingIn from.net (is_inside from.inside) from.inner kind []) Start line.0)
      → AreLabelsUnder a from [] labels answer
  labels_at_start kind is labels None hull none_empty emptied =
      let P : Kind → Type 0 = λ k. IsHull a from.net (IsNarrowingIn from.net (is_inside from.inside) from.inner k []) Start labels in
      record {
        hull = hull_of_same a from.net (Inside []) Start (May []) start_may may_start labels (subst P is hull);
        none_empty = none_empty;
      }
  labels_at_start kind is labels (Some line) hull none_empty emptied =
      let P : Kind → Type 0 = λ k. IsEmptied a from.net (IsNarrowingIn from.net (is_inside from.inside) from.inner k []) Start line.0 in
      record {
        in_circuit = emptied.0;
        emptied = emptied_if_wider a from.net (Inside []) (Inside []) (May []) Start
            (widens_by_states a from.net (Inside []) (May []) Start may_start) line.0 (subst P is emptied.1);
      }
