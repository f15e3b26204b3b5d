-- A board that is narrowed on under an entry more.
use Rattle.netlist.specs.Circuit.{gate_count}
use Rattle.std.proofs.Common.{◌≡◌, ◌≢◌, ℕ, ◌<◌, ⊎_elim, ◌+◌, Bool, true, List, length, [], ◌∷◌, ◌++◌, Option, Some, None, IfSome, IfNone, sym, ap, ◌∙◌, subst, arith}
use Rattle.std.proofs.Math.ListN.{set}
use Rattle.std.specs.List.{Contains}
use Rattle.std.proofs.lemmas.Bool.{cases_eq}
use Rattle.std.proofs.lemmas.List.{get_or-set_other}
use Rattle.pd_base.specs.declared.ids.LineId.{LineId}
use Rattle.pd_base.specs.declared.ids.PinRef.{PinRef}
use Rattle.netlist.specs.Circuit.{Circuit, line_count}
use Rattle.state_sets.specs.declared.state.StateSet.{StateSet}
use Rattle.state_sets.specs.States.{Has, both_sets, no_states}
use Rattle.state_sets.specs.StateAlgebra.{StateAlgebra}
use Rattle.state_sets.specs.Labellings.{label_at, IsLabelling}
use Rattle.state_sets.specs.Hulls.{HasNoEmptySet, IsHull, IsEmptied, HasAt}
use Rattle.state_laws.specs.Cones.{IsNarrowingIn}
use Rattle.state_laws.proofs.Sets.{none_has, no_state_at}
use Rattle.hulls.specs.Conditions.{Entered as Steps}
use Rattle.hulls.specs.declared.turn.Turn.{Turn}
use Rattle.hulls.specs.Awaiting.{is_inside, gate_turn}
use Rattle.hulls.specs.Boards.{OnBoard, Follows}
use Rattle.hulls.specs.Settling.{MaySettle, IsCutTo}
use Rattle.hulls.proofs.Entered.{awake_entered}
use Rattle.hulls.proofs.Changing.{cut_shrunk, follows_on}
use Rattle.hulls.proofs.Narrowed.{awake_on}
use Rattle.pd_base.specs.Links.{LinkList}
use Rattle.implication.proofs.Idling.{still_of}
use Rattle.implication.specs.declared.assumption.Assumption.TheVariants.{Assumed}
use Rattle.implication.specs.Kept.{IsSettledFrom, IsNarrowedMore, AreCutBy}
use Rattle.implication.proofs.Labels.{cut_by_assumed}

module _ (a : StateAlgebra) (c : Circuit) (old : OnBoard) (steps : Steps) (ready : MaySettle a c steps.kind steps.steps old) where
  -- once the gate of a pin more waits, the board is ready under its condition too
  pub ready_entered : (pin : PinRef) (new : OnBoard) (entered : Steps) → entered ≡ record steps { steps = steps.steps ++ pin ∷ [] }
      → new ≡ record old { waiting = new.waiting }
      → ((turn : Turn) → Contains old.waiting turn → Contains new.waiting turn)
      → (is_inside old.inside pin.gate.0 ≡ true → Contains new.waiting (gate_turn pin.gate.0))
      → MaySettle a c entered.kind entered.steps new
  ready_entered pin new entered is same stays waits =
      let P : Steps → Type 0 = λ s. MaySettle a c s.kind s.steps new in
      let labels : new.labels ≡ old.labels = ap (λ (b : OnBoard). b.labels) same in
      subst P (sym is) (record {
        of = still_of c old new (ap (λ (b : OnBoard). b.inside) same) (ap (λ (b : OnBoard). b.links) same)
            (ap (λ (b : OnBoard). length b.labels) same) ready.of;
        labelling = subst (IsLabelling a.count c) (sym labels) ready.labelling;
        some = subst (HasNoEmptySet c) (sym labels) ready.some;
        awake = awake_entered a c steps.kind steps.steps pin old new same stays waits ready.awake;
      })

  module _ (own : LineId) (to : StateSet) (within : own.0 < line_count c) (cut : OnBoard)
      (is : IsCutTo a.count c None own.0 to old cut) where
    in_labels : own.0 < length old.labels
    in_labels = let e = ready.of.lines in omega (arith, e, within)

    cut_labels : cut.labels ≡ set old.labels own.0 (both_sets (label_at old.labels own.0) to)
    cut_labels = is.labels

    -- the labels are cut by the assumption
    cuts : AreCutBy a.count (Assumed own to ∷ []) old.labels cut.labels
    cuts =
        let P : List StateSet → Type 0 = λ labels. AreCutBy a.count (Assumed own to ∷ []) old.labels labels in
        subst P (sym cut_labels) (cut_by_assumed a.count own to old.labels in_labels)

    lines : length cut.labels ≡ line_count c
    lines = (cut_shrunk c None a.count own.0 to old cut is).lines ∙ ready.of.lines

    labelling : IsLabelling a.count c cut.labels
    labelling = record { one_each = lines; within = is.within }

    -- where the line has some state left, the board is ready again
    pub ready_cut : label_at cut.labels own.0 ≢ no_states → MaySettle a c steps.kind steps.steps cut
    ready_cut left = record {
      of = still_of c old cut is.inside is.links (cut_shrunk c None a.count own.0 to old cut is).lines ready.of;
      labelling = labelling;
      some = λ line in_circuit. ⊎_elim
          (λ (here : own.0 ≡ line).
          let P : ℕ → Type 0 = λ n. label_at cut.labels n ≢ no_states in subst P here left)
          (λ (away : own.0 ≢ line).
          let e : label_at cut.labels line ≡ label_at old.labels line =
          ap (λ labels. label_at labels line) cut_labels
          ∙ get_or-set_other old.labels own.0 line (both_sets (label_at old.labels own.0) to) no_states (λ s. away (sym s)) in
          λ none. ready.some line in_circuit (sym e ∙ none))
          (cases_eq own.0 line);
      awake =
          let past = gate_count c + length old.links in
          let wakes = awake_on a c steps.kind steps.steps past None tt old cut is.inside is.links
          (cut_shrunk c None a.count own.0 to old cut is).wakes
          (record { gates = λ other in_c here away. ready.awake.gates other in_c here; links = λ link inside away. ready.awake.links link inside }) in
          record {
            gates = λ gate in_circuit here. wakes.gates gate in_circuit here (λ same. absurd (omega (arith, same, in_circuit)));
            links = λ link inside.
                let low : link < length old.links = subst (λ (ls : LinkList). link < length ls) is.links inside in
                wakes.links link inside (λ same. absurd (omega (arith, same, low)));
          };
    }

    -- where it has none, the line is emptied
    pub emptied_cut : label_at cut.labels own.0 ≡ no_states → (labels : List StateSet)
        → IsSettledFrom a c old.inside old.links steps.kind steps.steps cut.labels labels (Some own)
    emptied_cut none labels = record {
      hull = tt;
      none_empty = tt;
      emptied = (
        omega (arith, within),
        λ other among. no_state_at a.count c other among.labelling own.0
            (λ state has. none_has a.count state (subst (λ s. Has a.count s state) none (among.among own.0 state has))),
      );
    }

    pub narrowed_cut : (labels : List StateSet) (answer : Option LineId)
        → IsSettledFrom a c old.inside old.links steps.kind steps.steps cut.labels labels answer → (new : OnBoard) → new.labels ≡ labels
        → IsNarrowedMore a c (Assumed own to) steps.kind steps.steps old new answer
    narrowed_cut labels answer settled new is_new =
        let P : List StateSet → Type 0 = λ x. IsSettledFrom a c old.inside old.links steps.kind steps.steps cut.labels x answer in
        record { first = cut.labels; cut = cuts; settled = subst P (sym is_new) settled }

    -- what settling the cut board tells
    pub settled_cut : (new : OnBoard) (answer : Option LineId)
        → IfNone answer (IsHull a c (IsNarrowingIn c (is_inside cut.inside) cut.links steps.kind steps.steps) (HasAt a.count cut.labels) new.labels)
        → IfNone answer (HasNoEmptySet c new.labels)
        → IfSome answer (λ line. (line.0 < line_count c)
        × IsEmptied a c (IsNarrowingIn c (is_inside cut.inside) cut.links steps.kind steps.steps) (HasAt a.count cut.labels) line.0)
        → IsSettledFrom a c old.inside old.links steps.kind steps.steps cut.labels new.labels answer
    settled_cut new answer hull none_empty emptied =
        let P : List Bool → Type 0 = λ i. IsSettledFrom a c i old.links steps.kind steps.steps cut.labels new.labels answer in
        let Q : LinkList → Type 0 = λ ls. IsSettledFrom a c cut.inside ls steps.kind steps.steps cut.labels new.labels answer in
        subst P is.inside (subst Q is.links (record { hull = hull; none_empty = none_empty; emptied = emptied }))

-- what was noted since a board was cut and settled was noted since before
pub follows_cut : (count : ℕ) (c : Circuit) (line : ℕ) (to : StateSet) (old cut new : OnBoard) → IsCutTo count c None line to old cut
    → Follows cut new → Follows old new
follows_cut count c line to old cut new is after = follows_on old cut new is.follows after
