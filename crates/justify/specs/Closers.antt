-- What closes the trial of a node, in words that are spoken inside this crate alone (this project's own).
use Rattle.std.specs.Prelude.{◌≡◌, ℕ, List, take, Option, All, IfSome}
use Rattle.pd_base.specs.Links.{links_of}
use Rattle.pd_base.specs.Target.{Target}
use Rattle.pd_base.specs.declared.rules.Rules.{Rules}
use Rattle.netlist.specs.Circuit.{Circuit}
use Rattle.state_sets.specs.declared.state.State.{State}
use Rattle.state_sets.specs.StateAlgebra.{StateAlgebra}
use Rattle.state_sets.specs.Hulls.{IsNarrowingOf, Closes}
use Rattle.implication.specs.declared.assumption.Assumption.{Assumption}
use Rattle.implication.specs.Assumptions.{MayUnder}
use Rattle.implication.specs.NodeScopes.{beginning_of}
use Rattle.justify.specs.declared.closers.Closers.{Closers}
use Rattle.justify.specs.declared.trial.Tried.{Tried}

-- the sources that were kept
abbrev pub kept_of : Closers → List Tried
kept_of closers = take closers.count closers.tried

-- a line that is one of these sources is in the state tried
abbrev pub IsAsTried : List Tried → ℕ → State → Type 0
IsAsTried tried line state = All (λ entry. line ≡ entry.source.0 → state ≡ entry.state) tried

-- with these sources in the states tried, beside what is assumed, the path's conditions leave some line no state
abbrev pub ClosesBy : StateAlgebra → Circuit → Rules → Target → List Assumption → List Tried → Type 0
ClosesBy a c rules target assumptions tried =
    Closes a c (IsNarrowingOf c (links_of rules) target.kind target.path.steps)
    (λ line state. MayUnder a c rules (beginning_of target) assumptions line state × IsAsTried tried line state)

-- so it is by those that were kept, if any were
abbrev pub ClosesByKept : StateAlgebra → Circuit → Rules → Target → List Assumption → Option Closers → Type 0
ClosesByKept a c rules target assumptions closers = IfSome closers (λ kept. ClosesBy a c rules target assumptions (kept_of kept))
