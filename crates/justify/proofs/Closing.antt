-- What closed the trial of a node closes that of a node below, where more is assumed.
use Rattle.std.proofs.Common.{ℕ, List, Option, Some, None}
use Rattle.pd_base.specs.Links.{links_of}
use Rattle.pd_base.specs.Target.{Target}
use Rattle.pd_base.specs.declared.ids.LineId.{LineId}
use Rattle.pd_base.specs.declared.rules.Rules.{Rules}
use Rattle.netlist.specs.Circuit.{Circuit}
use Rattle.state_sets.specs.declared.state.State.{State}
use Rattle.state_sets.specs.declared.state.StateSet.{StateSet}
use Rattle.state_sets.specs.StateAlgebra.{StateAlgebra}
use Rattle.state_sets.specs.Hulls.{IsNarrowingOf}
use Rattle.state_laws.proofs.Hulls.{closes_if_wider, widens_by_states}
use Rattle.implication.specs.declared.assumption.Assumption.{Assumption}
use Rattle.implication.specs.Assumptions.{MayUnder}
use Rattle.implication.specs.Moves.{with_assumed}
use Rattle.implication.specs.NodeScopes.{beginning_of}
use Rattle.implication.proofs.MoreAssumed.{may_assumed}
use Rattle.justify.specs.declared.closers.Closers.{Closers}
use Rattle.justify.specs.declared.trial.Tried.{Tried}
use Rattle.justify.specs.Closers.{IsAsTried, ClosesBy, ClosesByKept, kept_of}

module _ (a : StateAlgebra) (c : Circuit) (rules : Rules) (target : Target) (list : List Assumption) (source : LineId) (set : StateSet) where
  closes_with_more : (tried : List Tried) → ClosesBy a c rules target list tried
      → ClosesBy a c rules target (with_assumed a.count list source set) tried
  closes_with_more tried closes =
      let Narrowings = IsNarrowingOf c (links_of rules) target.kind target.path.steps in
      let May : ℕ → State → Type 0 = λ line state. MayUnder a c rules (beginning_of target) list line state × IsAsTried tried line state in
      let Less : ℕ → State → Type 0 = λ line state.
      MayUnder a c rules (beginning_of target) (with_assumed a.count list source set) line state × IsAsTried tried line state in
      closes_if_wider a c Narrowings Narrowings Less May
      (widens_by_states a c Narrowings Less May
      (λ line state in_circuit in_range less.
      (((may_assumed a c rules (beginning_of target) list source set line state in_range).0 less.0).0, less.1)))
      closes

  pub kept_with_more : (closers : Option Closers) → ClosesByKept a c rules target list closers
      → ClosesByKept a c rules target (with_assumed a.count list source set) closers
  kept_with_more None closes = tt
  kept_with_more (Some kept) closes = closes_with_more (kept_of kept) closes
