-- A set assumed of a line: the states that lines may be in are cut by it, and nothing else changes.
use Rattle.std.proofs.Common.{◌≡◌, ◌≢◌, ℕ, ◌<◌, ◌⊎◌, inl, inr, ⊎_elim, ◌↔◌, Bool, true, false, List, [], ◌∷◌, ◌++◌, Some, if◌then◌else◌, refl, sym, ap, ◌∙◌, subst, eqb}
use Rattle.std.specs.List.{All, fold}
use Rattle.std.proofs.lemmas.Bool.Decides.{eqb_tells}
use Rattle.std.proofs.lemmas.List.{append-nil}
use Rattle.std.proofs.lemmas.List.Elements.{All-nil, All-cons, All-head, All-tail, All-push, All-pop}
use Rattle.pd_base.specs.declared.ids.LineId.{LineId}
use Rattle.pd_base.specs.declared.rules.Rules.{Rules}
use Rattle.netlist.specs.Circuit.{Circuit}
use Rattle.state_sets.specs.declared.state.State.{State}
use Rattle.state_sets.specs.declared.state.StateSet.{StateSet}
use Rattle.state_sets.specs.States.{Has, all_states, both_sets}
use Rattle.state_sets.specs.StateAlgebra.{StateAlgebra}
use Rattle.hulls.proofs.Sets.{has_both, both_have, all_have}
use Rattle.implication.specs.declared.assumption.Beginning.{Beginning}
use Rattle.implication.specs.declared.assumption.Assumption.{Assumption}
use Rattle.implication.specs.declared.assumption.Assumption.TheVariants.{Entered, Assumed}
use Rattle.implication.specs.Assumptions.{entered_pins, left_by, left_of, IsLetBy, MayUnder}
use Rattle.implication.specs.Moves.{with_assumed}
use Rattle.implication.proofs.Entering.{entered_append}

-- what assumptions leave of a line has the states that all of them let it be in
left_lets_from : (count : ℕ) (line : LineId) (state : State) (list : List Assumption) (from : StateSet)
    → Has count (fold (left_by line) from list) state ↔ (Has count from state × All (IsLetBy count line.0 state) list)
left_lets_from count line state [] from =
    (λ has. (has, All-nil (IsLetBy count line.0 state)), λ both. both.0)
left_lets_from count line state (Entered pin ∷ list) from =
    let Let : Assumption → Type 0 = IsLetBy count line.0 state in
    let rest = left_lets_from count line state list from in (
      λ has. let both = rest.0 has in (both.0, All-cons Let (Entered pin) list tt both.1),
      λ both. rest.1 (both.0, All-tail Let (Entered pin) list both.1),
    )
left_lets_from count line state (Assumed other set ∷ list) from =
    let Let : Assumption → Type 0 = IsLetBy count line.0 state in
    let P : Bool → Type 0 = λ b. Has count (fold (left_by line) (if b then both_sets from set else from) list) state
    ↔ (Has count from state × All Let (Assumed other set ∷ list)) in
    ⊎_elim
    (λ (same : (eqb other.0 line.0 ≡ true) × (other.0 ≡ line.0)).
    let rest = left_lets_from count line state list (both_sets from set) in
    subst P (sym same.0) (
      λ has.
          let both = rest.0 has in
          let cut = both_have count from set state (both_sets from set) refl both.0 in
          (cut.0, All-cons Let (Assumed other set) list (λ here. cut.1) both.1),
      λ both. rest.1 (
        has_both count from set state (both_sets from set) refl both.0 (All-head Let (Assumed other set) list both.1 (sym same.1)),
        All-tail Let (Assumed other set) list both.1,
      ),
    ))
    (λ (differ : (eqb other.0 line.0 ≡ false) × (other.0 ≢ line.0)).
    let rest = left_lets_from count line state list from in
    subst P (sym differ.0) (
      λ has.
          let both = rest.0 has in
          (both.0, All-cons Let (Assumed other set) list (λ here. absurd (differ.1 (sym here))) both.1),
      λ both. rest.1 (both.0, All-tail Let (Assumed other set) list both.1),
    ))
    (eqb_tells other.0 line.0)

module _ (count : ℕ) (list : List Assumption) (own : LineId) (set : StateSet) where
  abbrev left : StateSet
  left = left_of count own list

  abbrev cut : StateSet
  cut = both_sets left set

  -- the list stays as it is, or has one entry more
  pub assumed_cases : (with_assumed count list own set ≡ list) ⊎ (with_assumed count list own set ≡ list ++ Assumed own cut ∷ [])
  assumed_cases =
      let P : Bool → Type 0 = λ b. ((if b then list else list ++ Assumed own cut ∷ []) ≡ list)
      ⊎ ((if b then list else list ++ Assumed own cut ∷ []) ≡ list ++ Assumed own cut ∷ []) in
      ⊎_elim
      (λ (same : (eqb left.0 cut.0 ≡ true) × (left.0 ≡ cut.0)). subst P (sym same.0) (inl refl))
      (λ (differ : (eqb left.0 cut.0 ≡ false) × (left.0 ≢ cut.0)). subst P (sym differ.0) (inr refl))
      (eqb_tells left.0 cut.0)

  -- the pins entered stay
  pub entered_assumed : entered_pins (with_assumed count list own set) ≡ entered_pins list
  entered_assumed = ⊎_elim
      (λ (same : with_assumed count list own set ≡ list). ap entered_pins same)
      (λ (more : with_assumed count list own set ≡ list ++ Assumed own cut ∷ []).
      ap entered_pins more ∙ entered_append list (Assumed own cut ∷ []) ∙ append-nil (entered_pins list))
      assumed_cases

  -- a line is let be in the states that it was let be in, and if the set is assumed of it, that the set has
  module _ (line : ℕ) (state : State) (in_range : state.0 < count) where
    abbrev Let : Assumption → Type 0
    Let = IsLetBy count line state

    left_has : All Let list → line ≡ own.0 → Has count left state
    left_has all here =
        let P : ℕ → Type 0 = λ l. All (IsLetBy count l state) list in
        (left_lets_from count own state list (all_states count)).1 (all_have count state in_range, subst P here all)

    pub let_assumed : All Let (with_assumed count list own set) ↔ (All Let list × (line ≡ own.0 → Has count set state))
    let_assumed =
        let P : Bool → Type 0 = λ b. All Let (if b then list else list ++ Assumed own cut ∷ [])
        ↔ (All Let list × (line ≡ own.0 → Has count set state)) in
        let Q : ℕ → Type 0 = λ n. Has count (record { 0 = n }) state in
        ⊎_elim
        (λ (same : (eqb left.0 cut.0 ≡ true) × (left.0 ≡ cut.0)). subst P (sym same.0) (
          λ all. (all, λ here. (both_have count left set state cut refl (subst Q same.1 (left_has all here))).1),
          λ both. both.0,
        ))
        (λ (differ : (eqb left.0 cut.0 ≡ false) × (left.0 ≢ cut.0)). subst P (sym differ.0) (
          λ all.
              let parts = All-pop Let (list ++ Assumed own cut ∷ []) list (Some (Assumed own cut)) refl all in
              (parts.0, λ here. (both_have count left set state cut refl (parts.1 here)).1),
          λ both. All-push Let list (Assumed own cut) both.0
              (λ here. has_both count left set state cut refl (left_has both.0 here) (both.1 here)),
        ))
        (eqb_tells left.0 cut.0)

-- so it is with what lines may be in
pub may_assumed : (a : StateAlgebra) (c : Circuit) (rules : Rules) (begun : Beginning) (list : List Assumption) (own : LineId) (set : StateSet)
    (line : ℕ) (state : State) → state.0 < a.count → MayUnder a c rules begun (with_assumed a.count list own set) line state
    ↔ (MayUnder a c rules begun list line state × (line ≡ own.0 → Has a.count set state))
may_assumed a c rules begun list own set line state in_range =
    let lets = let_assumed a.count list own set line state in_range in (
      λ may. let both = lets.0 may.assumed in (record { start = may.start; assumed = both.0 }, both.1),
      λ both. record { start = both.0.start; assumed = lets.1 (both.0.assumed, both.1) },
    )
