-- Where what closed the trial of a node closes a place below: its sources may be in no other states there than those that were tried. And a
-- source that is left no state leaves no line open.
use Rattle.std.proofs.Common.{◌≡◌, ◌<◌, ℕ, List, Option, Some, None, Result, Ok, Err, true, get_or, refl, sym, ap, ◌∙◌, subst, arith}
use Rattle.std.specs.Prelude.{⊤, OnOk, IsSome}
use Rattle.std.specs.Result.{is_ok}
use Rattle.std.specs.List.{All}
use Rattle.std.proofs.lemmas.Bool.{false≢true}
use Rattle.pd_base.specs.Links.{links_of}
use Rattle.pd_base.specs.Target.{Target}
use Rattle.pd_base.specs.declared.ids.LineId.{LineId}
use Rattle.pd_base.specs.declared.ids.PinRef.{PinRef}
use Rattle.pd_base.specs.declared.rules.Rules.{Rules}
use Rattle.netlist.specs.Circuit.{Circuit, source_count}
use Rattle.state_sets.specs.declared.state.State.{State}
use Rattle.state_sets.specs.declared.state.StateSet.{StateSet}
use Rattle.state_sets.specs.StateAlgebra.{StateAlgebra}
use Rattle.state_sets.specs.States.{Has, no_states}
use Rattle.state_sets.specs.Labellings.{label_at}
use Rattle.state_sets.specs.Hulls.{IsNarrowingOf, IsRestAmong}
use Rattle.state_laws.proofs.Sets.{none_has, no_state_at}
use Rattle.implication.specs.declared.assumption.Assumption.{Assumption}
use Rattle.implication.specs.declared.assumption.Beginning.{Beginning}
use Rattle.implication.specs.declared.assumption.Conflict.{Conflict}
use Rattle.implication.specs.Assumptions.{entered_pins, MayUnder, ClosesUnder, IsHullUnder}
use Rattle.implication.specs.Moves.{with_assumed, grown, back_at, risen}
use Rattle.implication.specs.NodeScopes.{beginning_of}
use Rattle.implication.specs.Standing.{Standing, IsLabels, IsOpenIn, IsOpenFrom, IsEmptiedIn, IsEmptiedFrom, TellsLabel}
use Rattle.implication.proofs.MoreAssumed.{may_assumed, entered_assumed}
use Rattle.implication.proofs.ScopeLabels.{labels_once, labels_under}
use Rattle.justify.specs.declared.closers.Closers.{Closers}
use Rattle.justify.specs.declared.growing.Place.{Place}
use Rattle.justify.specs.declared.trial.Tried.{Tried}
use Rattle.justify.specs.Closers.{IsAsTried, ClosesBy, ClosesByKept, kept_of}
use Rattle.justify.specs.Growths.{AreHeldAt, IsHeldAt, IsKeptAtMark, IsShut}

module _ (a : StateAlgebra) (standing : Standing) (target : Target) (place : Place) (begun : standing.beginning ≡ Some (beginning_of target))
    (entered : entered_pins standing.assumptions ≡ target.path.steps) (hull : List StateSet) (labels : IsLabels a standing hull)
    (kept : List Tried) (held : All (IsHeldAt a standing place) kept) where
  abbrev start : Beginning
  start = beginning_of target

  abbrev more : List Assumption
  more = with_assumed a.count standing.assumptions place.source place.set

  abbrev Might : ℕ → State → Type 0
  Might line state = MayUnder a standing.net standing.rules start standing.assumptions line state

  under : IsHullUnder a standing.net standing.rules start standing.assumptions hull
  under = labels_under a standing start hull begun labels

  module _ (others : List StateSet) (at_rest : IsRestAmong a standing.net (IsNarrowingOf standing.net (links_of standing.rules) start.kind (entered_pins more))
      (MayUnder a standing.net standing.rules start more) others) where
    both : (line : ℕ) (state : State) → Has a.count (label_at others line) state
        → Might line state × (line ≡ place.source.0 → Has a.count place.set state)
    both line state has =
        (may_assumed a standing.net standing.rules start standing.assumptions place.source place.set line state has.in_range).0
        (at_rest.among line state has)

    -- a labelling at rest below has no states that the hull above has not
    in_hull : (line : ℕ) (state : State) → Has a.count (label_at others line) state → Has a.count (label_at hull line) state
    in_hull line state has =
        let P : List PinRef → Type 0 = λ steps.
        IsRestAmong a standing.net (IsNarrowingOf standing.net (links_of standing.rules) start.kind steps) Might others in
        under.greatest others (subst P (entered_assumed a.count standing.assumptions place.source place.set) (record {
          labelling = at_rest.labelling;
          rest = at_rest.rest;
          among = λ l s h. (both l s h).0;
        })) line state has

    as_tried : (line : ℕ) (state : State) → Has a.count (label_at others line) state → IsAsTried kept line state
    as_tried line state has k d inside = λ here.
        let entry = get_or kept k d in
        let P : ℕ → Type 0 = λ l. Has a.count (label_at hull l) state in
        held k d inside hull labels state (subst P here (in_hull line state has)) (λ at. (both line state has).1 (here ∙ at))

  pub held_closes : ClosesBy a standing.net standing.rules target standing.assumptions kept → ClosesUnder a standing.net standing.rules start more
  held_closes closes = record {
    line = closes.line;
    in_circuit = closes.in_circuit;
    emptied = λ others at_rest.
        let P : List PinRef → Type 0 = λ steps.
        IsRestAmong a standing.net (IsNarrowingOf standing.net (links_of standing.rules) start.kind steps)
        (λ line state. Might line state × IsAsTried kept line state) others in
        closes.emptied others (subst P (entered_assumed a.count standing.assumptions place.source place.set ∙ entered) (record {
          labelling = at_rest.labelling;
          rest = at_rest.rest;
          among = λ line state has. ((both others at_rest line state has).0, as_tried others at_rest line state has);
        }));
  }

-- a source that is left no state closes
module _ (a : StateAlgebra) (c : Circuit) (rules : Rules) (list : List Assumption) (source : LineId) (within : source.0 < source_count c)
    (set : StateSet) (none : set ≡ no_states) where
  none_closes : (begun : Beginning) → ClosesUnder a c rules begun (with_assumed a.count list source set)
  none_closes begun = record {
    line = source.0;
    in_circuit = omega (arith, within);
    emptied = λ labels is.
        no_state_at a.count c labels is.labelling source.0 (λ state has.
        let P : StateSet → Type 0 = λ s. Has a.count s state in
        none_has a.count state (subst P none
        (((may_assumed a c rules begun list source set source.0 state has.in_range).0 (is.among source.0 state has)).1 refl)));
  }

  pub none_open : (o : Option Beginning) → IsSome o → IsOpenFrom a c rules o (with_assumed a.count list source set) → ⊥
  none_open None some left_open = absurd (false≢true some)
  none_open (Some begun) some left_open = left_open (none_closes begun)

-- so where a source is assumed to have no state, a conflict comes
pub none_assumed : (a : StateAlgebra) (old new : Standing) (source : LineId) → source.0 < source_count old.net → IsSome old.beginning
    → (set : StateSet) → set ≡ no_states → (answer : Result ⊤ Conflict) → is_ok answer ≡ true
    → OnOk answer (new ≡ grown old (with_assumed a.count old.assumptions source set)) → OnOk answer (IsOpenIn a new) → ⊥
none_assumed a old new source within begun set none (Ok done) ok is left_open =
    none_open a old.net old.rules old.assumptions source within set none old.beginning begun (subst (IsOpenIn a) is left_open)
none_assumed a old new source within begun set none (Err conflict) ok is left_open = absurd (false≢true ok)

-- what a scope answers for a line contains its states in the labels
pub label_contains : (a : StateAlgebra) (standing : Standing) → IsSome standing.beginning → (line : ℕ) (answer : StateSet)
    → (labels : List StateSet) × IsLabels a standing labels × TellsLabel a.count standing labels line answer
    → (labels : List StateSet) → IsLabels a standing labels → (state : State) → Has a.count (label_at labels line) state → Has a.count answer state
label_contains a standing begun line answer tells labels is state has =
    let P : List StateSet → Type 0 = λ ls. Has a.count (label_at ls line) state in
    tells.2.contains state (subst P (labels_once a standing labels tells.0 begun is tells.1) has)

-- by what is kept, and held at the mark of a place, the place is shut out
module _ (a : StateAlgebra) (target : Target) (place : Place) (old : Standing) (at_mark : IsKeptAtMark a target place old) where
  abbrev here : Standing
  here = back_at old place.mark.at

  held_emptied : (hull : List StateSet) → IsLabels a here hull → (held : AreHeldAt a here place)
      → (line : ℕ) × IsEmptiedIn a (grown here (with_assumed a.count here.assumptions place.source place.set)) line
  held_emptied hull labels held =
      let list = with_assumed a.count here.assumptions place.source place.set in
      let P : Option Closers → Type 0 = λ closers. ClosesByKept a old.net old.rules target here.assumptions closers in
      let closes : ClosesUnder a old.net old.rules (beginning_of target) list =
      held_closes a here target place at_mark.beginning at_mark.entered hull labels (kept_of held.0) held.2 (subst P held.1 at_mark.closes) in
      let Q : Option Beginning → Type 0 = λ begun. IsEmptiedFrom a old.net old.rules begun list closes.line in
      (closes.line, subst Q (sym at_mark.beginning) (closes.in_circuit, closes.emptied))

  pub held_shuts : (mid new : Standing) → mid ≡ here → (hull : List StateSet) → IsLabels a mid hull
      → AreHeldAt a mid place → new ≡ record mid { closings = risen mid.closings } → IsShut a place old new
  held_shuts mid new is hull labels held counted =
      let P : Standing → Type 0 = λ s. IsLabels a s hull in
      let Q : Standing → Type 0 = λ s. AreHeldAt a s place in
      let emptied = held_emptied hull (subst P is labels) (subst Q is held) in
      record {
        now = counted ∙ ap (λ (s : Standing). record s { closings = risen s.closings }) is;
        line = emptied.0;
        emptied = emptied.1;
      }
