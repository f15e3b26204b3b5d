-- The steps of a walk: a half assumed at a node leads to the node below it, and going back to the mark of a half that was put off leads to
-- the node above it.
use Rattle.std.proofs.Common.{◌≡◌, ℕ, ◌<◌, true, false, cond, inr, List, [], ◌∷◌, ◌++◌, reverse, length, Option, Some, None}
use Rattle.std.proofs.Common.{Result, Ok, Err, IfErr, OnOk, refl, sym, ap, ◌∙◌, subst, subst₂}
use Rattle.std.specs.List.{All}
use Rattle.std.specs.Prelude.{IfSome, is_some}
use Rattle.std.proofs.lemmas.List.{reverse-append}
use Rattle.std.proofs.lemmas.List.Elements.{All-push}
use Rattle.pd_base.specs.Target.{Target}
use Rattle.pd_base.specs.declared.ids.LineId.{LineId}
use Rattle.pd_base.specs.declared.rules.Rules.{Rules}
use Rattle.netlist.specs.Circuit.{Circuit, line_count}
use Rattle.state_sets.specs.declared.state.StateSet.{StateSet}
use Rattle.state_sets.specs.StateAlgebra.{StateAlgebra}
use Rattle.state_laws.specs.declared.split.Split.{Split}
use Rattle.state_laws.specs.declared.split.Half.{Half}
use Rattle.state_laws.specs.Halves.{half_of}
use Rattle.trees.specs.Halves.{halves_of, turned, turns}
use Rattle.implication.specs.declared.assumption.Assumption.{Assumption}
use Rattle.implication.specs.declared.assumption.Conflict.{Conflict}
use Rattle.implication.specs.Assumptions.{entered_pins, ClosesUnder}
use Rattle.implication.specs.Clients.{ExtendsStanding, IsRestored}
use Rattle.implication.specs.Moves.{with_assumed, grown, closed_at, back_at}
use Rattle.implication.specs.Standing.{Standing, IsFree, IsTold, IsOpenIn, IsEmptiedIn}
use Rattle.implication.proofs.Restoring.{extends_restored, extends_trans}
use Rattle.implication.specs.NodeScopes.{beginning_of, AllowAsNode}
use Rattle.implication.proofs.MoreAssumed.{entered_assumed}
use Rattle.implication.proofs.AssumedHalves.{IsStatesOf, half_assumed}
use Rattle.implication.proofs.ScopeLabels.{open_under}
use Rattle.refutation_check.specs.declared.walk.Pending.{Pending}
use Rattle.refutation_check.specs.Walks.{ClosesAtLine, IsNodeBy, IsScopeAt, IsPending, ArePending, WalksAt, GoesOnTo}
use Rattle.refutation_check.proofs.Closing.{closes_below, closes_at_line}

module _ (a : StateAlgebra) where
  -- what was assumed of the line of a half, at a node
  module _ (old new : Standing) (half : Half) (set : StateSet) (states : IsStatesOf a half set) (target : Target) (halves : List Half)
      (extends : ExtendsStanding old new) where
    abbrev list : List Assumption
    list = with_assumed a.count old.assumptions half.split.line set

    -- with that, lines may be in the states of the node below, in the new standing
    allows_there : AllowAsNode a old.net old.rules target old.assumptions halves → new.assumptions ≡ list
        → AllowAsNode a new.net new.rules target new.assumptions (halves ++ half ∷ [])
    allows_there allows is =
        let P : Circuit → Rules → Type 0 = λ c rules. AllowAsNode a c rules target new.assumptions (halves ++ half ∷ []) in
        let Q : List Assumption → Type 0 = λ l. AllowAsNode a old.net old.rules target l (halves ++ half ∷ []) in
        subst₂ P (sym extends.net) (sym extends.rules)
        (subst Q (sym is) (half_assumed a old.net old.rules target old.assumptions halves half set states allows))

    entered_there : entered_pins old.assumptions ≡ target.path.steps → new.assumptions ≡ list
        → entered_pins new.assumptions ≡ target.path.steps
    entered_there entered is = ap entered_pins is ∙ entered_assumed a.count old.assumptions half.split.line set ∙ entered

    -- a conflict that stood still does
    held_node : (line : LineId) → new ≡ old → IsNodeBy a target halves old (Some line) → IsNodeBy a target (halves ++ half ∷ []) new (Some line)
    held_node line same closes =
        let P : Standing → Type 0 = λ s. ClosesAtLine a s.net s.rules target (halves ++ half ∷ []) line in
        subst P (sym same) (closes_below a old.net old.rules target halves half line closes)

    below_by : {T : Type 0} (answer : Result T Conflict) (conflict : Option LineId) → old.conflict ≡ conflict
        → old.beginning ≡ Some (beginning_of target) → IsNodeBy a target halves old conflict
        → IfSome conflict (λ line. (answer ≡ Err (record { 0 = line })) × (new ≡ old))
        → OnOk answer (new ≡ grown old list)
        → (IsFree old → IfErr answer (λ c. new ≡ closed_at old list c.0))
        → OnOk answer (IsOpenIn a new) → IfErr answer (λ c. IsEmptiedIn a new c.0.0)
        → IsNodeBy a target (halves ++ half ∷ []) new new.conflict
    below_by answer (Some line) was began node held ok err left_open emptied =
        let P : Option LineId → Type 0 = IsNodeBy a target (halves ++ half ∷ []) new in
        subst P (sym (ap (λ (s : Standing). s.conflict) held.1 ∙ was)) (held_node line held.1 node)
    below_by (Ok value) None was began node held ok err left_open emptied =
        let is = ap (λ (s : Standing). s.assumptions) ok in
        let P : Option LineId → Type 0 = IsNodeBy a target (halves ++ half ∷ []) new in
        subst P (sym (ap (λ (s : Standing). s.conflict) ok ∙ was)) (record {
          entered = entered_there node.entered is;
          allows = allows_there node.allows is;
          left_open = open_under a new (beginning_of target) (extends.beginning ∙ began) left_open;
        })
    below_by (Err conflict) None was began node held ok err left_open emptied =
        let closed = err (record { begun = ap is_some began; free = was }) in
        let is = ap (λ (s : Standing). s.assumptions) closed in
        let P : Option LineId → Type 0 = IsNodeBy a target (halves ++ half ∷ []) new in
        subst P (sym (ap (λ (s : Standing). s.conflict) closed))
        (closes_at_line a target (halves ++ half ∷ []) new (extends.beginning ∙ began) (entered_there node.entered is)
        (allows_there node.allows is) conflict.0 emptied)

    -- the scope is at the node below
    pub at_below : {T : Type 0} (answer : Result T Conflict) → half.split.line.0 < line_count old.net → IsScopeAt a target halves old
        → IfSome old.conflict (λ line. (answer ≡ Err (record { 0 = line })) × (new ≡ old))
        → OnOk answer (new ≡ grown old list)
        → (IsFree old → IfErr answer (λ c. new ≡ closed_at old list c.0))
        → OnOk answer (IsOpenIn a new) → IfErr answer (λ c. IsEmptiedIn a new c.0.0)
        → IsScopeAt a target (halves ++ half ∷ []) new
    at_below answer within at held ok err left_open emptied =
        let P : Circuit → Type 0 = λ c. All (λ (h : Half). h.split.line.0 < line_count c) (halves ++ half ∷ []) in
        record {
          beginning = extends.beginning ∙ at.beginning;
          on_lines =
              subst P (sym extends.net) (All-push (λ (h : Half). h.split.line.0 < line_count old.net) halves half at.on_lines within);
          is_node = below_by answer old.conflict refl at.beginning at.is_node held ok err left_open emptied;
        }

  -- a scope that stands as another one does is at the same node
  pub at_restored : (target : Target) (halves : List Half) (old new : Standing) → IsRestored old new → IsScopeAt a target halves old
      → IsScopeAt a target halves new
  at_restored target halves old new restored at = record {
    beginning = restored.beginning ∙ at.beginning;
    on_lines =
        let P : Circuit → Type 0 = λ c. All (λ (h : Half). h.split.line.0 < line_count c) halves in subst P (sym restored.net) at.on_lines;
    is_node = subst (IsNodeBy a target halves new) (sym restored.conflict) (by old.conflict at.is_node);
  }
    where
      by : (conflict : Option LineId) → IsNodeBy a target halves old conflict → IsNodeBy a target halves new conflict
      by (Some line) closes =
          let P : Circuit → Rules → Type 0 = λ c rules. ClosesAtLine a c rules target halves line in
          subst₂ P (sym restored.net) (sym restored.rules) closes
      by None node = record {
        entered = ap entered_pins restored.assumptions ∙ node.entered;
        allows =
            let P : Circuit → Rules → Type 0 = λ c rules. AllowAsNode a c rules target new.assumptions halves in
            let Q : List Assumption → Type 0 = λ l. AllowAsNode a old.net old.rules target l halves in
            subst₂ P (sym restored.net) (sym restored.rules) (subst Q (sym restored.assumptions) node.allows);
        left_open =
            let P : Circuit → Rules → Type 0 = λ c rules. ¬ ClosesUnder a c rules (beginning_of target) new.assumptions in
            let Q : List Assumption → Type 0 = λ l. ¬ ClosesUnder a old.net old.rules (beginning_of target) l in
            subst₂ P (sym restored.net) (sym restored.rules) (subst Q (sym restored.assumptions) node.left_open);
      }

  -- going back to where the list had the length of what is extended restores it
  pub back_restores : (before now back : Standing) (mark : ℕ) → mark ≡ length before.assumptions → ExtendsStanding before now
      → back ≡ back_at now mark → IsRestored before back
  back_restores before now back mark at extends is =
      let P : Standing → Type 0 = λ s. IsRestored before s in
      let same : back ≡ back_at now (length before.assumptions) = is ∙ ap (back_at now) at in
      subst P (sym same) (record {
        net = extends.net;
        rules = extends.rules;
        ends = extends.ends;
        beginning = extends.beginning;
        assumptions = extends.front;
        conflict = extends.conflict;
        later = extends.later;
      })

  module _ (target : Target) where
    -- what was put off stays so as the scope goes on
    pub pending_on : (old new : Standing) (pending : List Pending) (places : List (List Half)) → ExtendsStanding old new
        → ArePending a target old pending places → ArePending a target new pending places
    pending_on old new [] places extends none = none
    pending_on old new (pending ∷ more) places extends (above, before, is, due) = (
      above,
      before,
      record {
        first = is.first;
        second = is.second;
        in_circuit = is.in_circuit;
        told = is.told;
        mark = is.mark;
        extends = extends_trans before old new is.extends extends;
        at = is.at;
      },
      due,
    )

    -- below a second half the same places are due, and below a first half its second one too
    turns_second : (half : Half) (above : List Half) → half.second ≡ true → turns (half ∷ above) ≡ turns above
    turns_second half above second =
        ap (λ b. cond b (turns above) ((turned half ∷ above) ∷ turns above)) second

    -- down into the first half of a split
    pub goes_down : (old new : Standing) (above : List Half) (split : Split) (pending more : List Pending) (second : Pending)
        → split.line.0 < line_count old.net → IsTold old split.line.0
        → second.half ≡ half_of split true → second.mark.at ≡ length old.assumptions
        → more ≡ pending ++ second ∷ [] → ExtendsStanding old new
        → IsScopeAt a target (halves_of above ++ half_of split false ∷ []) new
        → WalksAt a target above old pending
        → WalksAt a target (half_of split false ∷ above) new more
    goes_down old new above split pending more second within told of_half marked pushed extends at walks = record {
      at = at;
      due =
          let P : List Pending → Type 0 = λ list. ArePending a target new list
          ((half_of split true ∷ above) ∷ turns above) in
          subst P (sym (ap (reverse {A = Pending}) pushed ∙ reverse-append pending (second ∷ []))) (
            above,
            old,
            record {
              first = ap (λ (h : Half). (h ∷ above) ∷ turns above) (sym of_half);
              second = ap (λ (h : Half). h.second) of_half;
              in_circuit = let Q : Half → Type 0 = λ h. h.split.line.0 < line_count old.net in subst Q (sym of_half) within;
              told = let Q : Half → Type 0 = λ h. IsTold old h.split.line.0 in subst Q (sym of_half) told;
              mark = marked;
              extends = extends;
              at = walks.at;
            },
            walks.due,
          );
    }

    -- round behind a leaf: what the last of the halves that were put off was
    pub record Comes (now : Standing) (above : List Half) (next : Pending) (pending : List Pending) : Type 0 where
      pub higher : List Half
      pub before : Standing
      pub is : IsPending a target next higher before now (turns above)
      pub due : ArePending a target before (reverse pending) (turns higher)

    pub comes_next : (now : Standing) (above : List Half) (next : Pending) (pending all : List Pending) → all ≡ pending ++ next ∷ []
        → WalksAt a target above now all → Comes now above next pending
    comes_next now above next pending all is walks =
        let P : List Pending → Type 0 = λ list. ArePending a target now list (turns above) in
        by (subst P (ap (reverse {A = Pending}) is ∙ reverse-append pending (next ∷ [])) walks.due)
      where
        by : ArePending a target now (next ∷ reverse pending) (turns above) → Comes now above next pending
        by (higher, before, here, due) = record { higher = higher; before = before; is = here; due = due }

    pub goes_round : (now back new : Standing) (above : List Half) (next : Pending) (pending : List Pending)
        → (comes : Comes now above next pending) → back ≡ back_at now next.mark.at → ExtendsStanding back new
        → ((halves : List Half) → IsScopeAt a target halves back → IsScopeAt a target (halves ++ next.half ∷ []) new)
        → (more : List Half) × GoesOnTo above more × WalksAt a target more new pending
    goes_round now back new above next pending comes is extends below =
        let restored = back_restores comes.before now back next.mark.at comes.is.mark comes.is.extends is in
        let same = turns_second next.half comes.higher comes.is.second in (
          next.half ∷ comes.higher,
          inr (comes.is.first ∙ ap (λ (ts : List (List Half)). (next.half ∷ comes.higher) ∷ ts) (sym same)),
          record {
            at = below (halves_of comes.higher) (at_restored target (halves_of comes.higher) comes.before back restored comes.is.at);
            due =
                let P : List (List Half) → Type 0 = λ places. ArePending a target new (reverse pending) places in
                subst P (sym same)
                (pending_on comes.before new (reverse pending) (turns comes.higher)
                (extends_trans comes.before back new (extends_restored comes.before back restored) extends) comes.due);
          },
        )
