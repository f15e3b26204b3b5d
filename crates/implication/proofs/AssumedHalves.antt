-- The halves of splits: whether a set has some state of a half, and the states of a half assumed of its line, with which the assumptions
-- of a node leave lines the states of the node below the half.
use Rattle.std.proofs.Common.{◌≡◌, ◌≢◌, ◌<◌, ◌^◌, ◌↔◌, Bool, not, List, [], ◌∷◌, ◌++◌, ap, eqb}
use Rattle.std.specs.Prelude.{IsTrue, bit_and}
use Rattle.pd_base.specs.Target.{Target}
use Rattle.pd_base.specs.declared.rules.Rules.{Rules}
use Rattle.netlist.specs.Circuit.{Circuit}
use Rattle.state_sets.specs.declared.state.State.{State}
use Rattle.state_sets.specs.declared.state.StateSet.{StateSet}
use Rattle.state_sets.specs.States.{Has, no_states}
use Rattle.state_sets.specs.StateAlgebra.{StateAlgebra, HasLaws}
use Rattle.state_laws.specs.declared.split.SplitKind.{SplitKind}
use Rattle.state_laws.specs.declared.split.Half.{Half}
use Rattle.state_laws.specs.Halves.{IsInHalf}
use Rattle.state_laws.proofs.Restart.{may_be_below, may_be_above}
use Rattle.hulls.proofs.Sets.{has_both, both_have, has_some, some_not_none, cut_within, ne_tells, ne_told}
use Rattle.trees.specs.Spent.{HasInHalf}
use Rattle.implication.specs.declared.assumption.Assumption.{Assumption}
use Rattle.implication.specs.Moves.{with_assumed}
use Rattle.implication.specs.NodeScopes.{beginning_of, AllowAsNode}
use Rattle.implication.proofs.MoreAssumed.{may_assumed}

-- these are the states of a half
abbrev pub IsStatesOf : StateAlgebra → Half → StateSet → Type 0
IsStatesOf a half states =
    (state : State) → Has a.count states state ↔ ((state.0 < a.count) × IsInHalf a half.split.kind half.second state)

pub half_assumed : (a : StateAlgebra) (c : Circuit) (rules : Rules) (target : Target) (list : List Assumption) (halves : List Half) (half : Half) (set : StateSet)
    → IsStatesOf a half set → AllowAsNode a c rules target list halves
    → AllowAsNode a c rules target (with_assumed a.count list half.split.line set) (halves ++ half ∷ [])
half_assumed a c rules target list halves half set means node line state in_circuit in_range =
    let may = may_assumed a c rules (beginning_of target) list half.split.line set line state in_range in
    let at = node line state in_circuit in_range in (
      λ under.
          let both = may.0 under in
          may_be_below a c rules target halves half line state in_circuit in_range
          (at.0 both.0, λ here. ((means state).0 (both.1 here)).1),
      λ be.
          let parts = may_be_above a c rules target halves half line state in_circuit in_range be in
          may.1 (at.1 parts.0, λ here. (means state).1 (in_range, parts.1 here)),
    )

-- a set has some state of a half if what it shares with the half is not empty
pub shares_half : (a : StateAlgebra) → HasLaws a → (set states cut : StateSet) (kind : SplitKind) (second : Bool) (r : Bool)
    → ((state : State) → Has a.count states state ↔ ((state.0 < a.count) × IsInHalf a kind second state))
    → states.0 < 2 ^ a.count → cut.0 ≡ bit_and set.0 states.0 → r ≡ not (eqb cut.0 0)
    → IsTrue r ↔ HasInHalf a set kind second
shares_half a laws set states cut kind second r states_are small is_cut is = (
  λ yes.
      let some : cut ≢ no_states = λ none. ne_tells r cut.0 0 is yes (ap (λ (s : StateSet). s.0) none) in
      let found = has_some a.count cut laws.few (cut_within a.count set states cut is_cut small) some in
      let both = both_have a.count set states found.0 cut is_cut found.1 in
      (found.0, both.0, ((states_are found.0).0 both.1).1),
  λ found.
      let has = has_both a.count set states found.0 cut is_cut found.1 ((states_are found.0).1 (found.1.in_range, found.2)) in
      ne_told r cut.0 0 is (λ e. some_not_none a.count cut found.0 has (ap (λ n. record { 0 = n }) e)),
)
