-- The trial of a node through its scope: sources of the path's support that are told are assumed to be in the least states of their
-- labels, one after another, until a conflict comes. Its words are spoken inside this crate alone (this project's own).
use Rattle.std.specs.Prelude.{◌≡◌, ℕ, ◌+◌, ◌<◌, ◌≤◌, Bool, true, false, List, take, Option, Some, None, All, Contains}
use Rattle.pd_base.specs.Links.{links_of}
use Rattle.pd_base.specs.Pair.{Vectors}
use Rattle.pd_base.specs.Target.{Target}
use Rattle.pd_base.specs.declared.ids.LineId.{LineId}
use Rattle.pd_base.specs.declared.rules.Rules.{Rules}
use Rattle.netlist.specs.Circuit.{Circuit, source_count}
use Rattle.netlist.specs.Conditions.{Meets}
use Rattle.netlist.specs.Paths.{end_of}
use Rattle.state_sets.specs.declared.state.State.{State}
use Rattle.state_sets.specs.declared.state.StateSet.{StateSet}
use Rattle.state_sets.specs.States.{Has}
use Rattle.state_sets.specs.StateAlgebra.{StateAlgebra}
use Rattle.state_sets.specs.Labellings.{label_at}
use Rattle.state_sets.specs.LineStates.{state_under}
use Rattle.state_laws.specs.declared.split.Half.{Half}
use Rattle.trees.specs.Spent.{IsInSupport, IsOpen}
use Rattle.implication.specs.Assumptions.{entered_pins, MayUnder, ClosesUnder}
use Rattle.implication.specs.Moves.{risen}
use Rattle.implication.specs.Standing.{Standing, IsLabels, IsOpenIn, IsTold}
use Rattle.justify.specs.declared.desk.Desk.{Desk}
use Rattle.justify.specs.declared.closers.Closers.{Closers}
use Rattle.justify.specs.declared.trial.Tried.{Tried}
use Rattle.implication.specs.NodeScopes.{beginning_of, AllowAsNode}
use Rattle.pair_judging.specs.ConeStates.{state_in, HasLinkedStates}
use Rattle.pair_judging.specs.LeastStates.{IsTakenOf}
use Rattle.cones.specs.FoundLines.{HasMark}
use Rattle.justify.specs.Closers.{IsAsTried, ClosesBy, ClosesByKept}
use Rattle.justify.specs.Desks.{AreInSupport}
use Rattle.justify.specs.Scoping.{IsToldInSupport}
use Rattle.justify.specs.Tests.{IsFitTest}

-- the source is in the support of the path and told, and the state is the least one of its label
pub record CanTry (a : StateAlgebra) (target : Target) (standing : Standing) (tried : Tried) : Type 0 where
  pub source : IsToldInSupport target standing tried.source.0
  pub in_range : tried.state.0 < a.count
  pub least : (labels : List StateSet) → IsLabels a standing labels → IsTakenOf a.count (label_at labels tried.source.0) tried.state

-- No pin more was entered, and all that was assumed more is that these sources are in the states tried.
pub record IsWithinTrial (a : StateAlgebra) (target : Target) (old new : Standing) (tried : List Tried) : Type 0 where
  pub entered : entered_pins new.assumptions ≡ entered_pins old.assumptions
  pub lets : (line : ℕ) (state : State) → state.0 < a.count
      → MayUnder a old.net old.rules (beginning_of target) old.assumptions line state → IsAsTried tried line state
      → MayUnder a old.net old.rules (beginning_of target) new.assumptions line state

-- those that were tried until a conflict came: up to the one at this place, or all
abbrev pub tried_until : List Tried → Option ℕ → List Tried
tried_until tried None = tried
tried_until tried (Some place) = take (place + 1) tried

-- the source may only be in the state that was tried
abbrev pub IsHeldIn : StateAlgebra → Target → Standing → Standing → Tried → Type 0
IsHeldIn a target old new tried = (state : State) → state.0 < a.count
    → MayUnder a old.net old.rules (beginning_of target) new.assumptions tried.source.0 state → state ≡ tried.state

-- no conflict came: all these sources are held in the states that were tried
pub record AreHeld (a : StateAlgebra) (target : Target) (old new : Standing) (tried : List Tried) : Type 0 where
  pub free : new.conflict ≡ None
  pub left_open : IsOpenIn a new
  pub held : All (IsHeldIn a target old new) tried

-- a conflict came, and was counted
pub record HasClosed (a : StateAlgebra) (target : Target) (old new : Standing) : Type 0 where
  pub closes : ClosesUnder a old.net old.rules (beginning_of target) new.assumptions
  pub counted : risen old.closings ≤ new.closings

-- what is assumed of the sources that are tried ends in a conflict, or it holds them all
abbrev pub EndsTrial : StateAlgebra → Target → Standing → Standing → List Tried → Bool → Type 0
EndsTrial a target old new tried true = HasClosed a target old new
EndsTrial a target old new tried false = AreHeld a target old new tried

-- a set has at most one state
abbrev pub IsSingle : ℕ → StateSet → Type 0
IsSingle count set = (one other : State) → Has count set one → Has count set other → one ≡ other

-- The trial of the node at which the scope stands has closed: the node of any tree that allows what the scope does is open, and some
-- source of the support that is told has two states in its hull.
pub record HasFailed (a : StateAlgebra) (target : Target) (standing : Standing) : Type 0 where
  pub hull : List StateSet
  pub labels : IsLabels a standing hull
  pub is_open : (halves : List Half) → AllowAsNode a standing.net standing.rules target standing.assumptions halves
      → IsOpen standing.net standing.rules target halves hull
  pub two : ¬ ((source : ℕ) → IsToldInSupport target standing source → IsSingle a.count (label_at hull source))

-- some source that was tried is this one, and it was tried in its state under the pair
pub record IsTriedAs (a : StateAlgebra) (c : Circuit) (pair : Vectors) (tried : List Tried) (source : ℕ) : Type 0 where
  pub entry : Tried
  pub among : Contains tried entry
  pub here : entry.source.0 ≡ source
  pub same : entry.state ≡ state_under a c pair source

-- under a pair that has at all sources of the support the states that were tried, the states along links of the support may be linked, and
-- it meets the conditions
abbrev pub GivesTest : StateAlgebra → Circuit → Rules → Target → List Tried → Type 0
GivesTest a c rules target tried = (pair : Vectors)
    → ((source : ℕ) → IsInSupport c rules target.path source → IsTriedAs a c pair tried source)
    → HasLinkedStates a c (links_of rules) (end_of c target.path) pair × Meets c target pair

-- the node's trial has failed by these sources, and a conflict was counted
pub record FailsAtNode (a : StateAlgebra) (target : Target) (old new : Standing) (tried : List Tried) : Type 0 where
  pub failed : HasFailed a target old
  pub counted : risen old.closings ≤ new.closings
  pub closes : ClosesBy a old.net old.rules target old.assumptions tried

-- what comes of trying sources at a node: its trial fails by those up to this place; or no conflict came
abbrev pub EndsAtNode : StateAlgebra → Target → Standing → Standing → List Tried → Option ℕ → Type 0
EndsAtNode a target old new tried (Some place) = FailsAtNode a target old new (take (place + 1) tried)
EndsAtNode a target old new tried None = GivesTest a old.net old.rules target tried

-- the node's trial has failed, by the sources that are kept, if any are, and a conflict was counted
pub record FailsByKept (a : StateAlgebra) (target : Target) (old new : Standing) (closers : Option Closers) : Type 0 where
  pub failed : HasFailed a target old
  pub counted : risen old.closings ≤ new.closings
  pub closes : ClosesByKept a old.net old.rules target old.assumptions closers

-- what is found at a node: a test; or its trial fails, by the sources that are kept
abbrev pub IsTrialOf : StateAlgebra → Target → Standing → Standing → Option Closers → Option Vectors → Type 0
IsTrialOf a target old new closers (Some pair) = IsFitTest old.net old.rules target pair
IsTrialOf a target old new closers None = FailsByKept a target old new closers

-- the source is marked and told, and the state is the least one of its label as the scope stands
pub record HasLeastLabel (a : StateAlgebra) (standing : Standing) (marks : List Bool) (tried : Tried) : Type 0 where
  pub is_source : tried.source.0 < source_count standing.net
  pub marked : HasMark marks tried.source.0
  pub told : IsTold standing tried.source.0
  pub in_range : tried.state.0 < a.count
  pub least : (labels : List StateSet) → IsLabels a standing labels → IsTakenOf a.count (label_at labels tried.source.0) tried.state

-- what was tried is one of these sources that is told, in its state by this list
pub record IsTriedIn (standing : Standing) (sources : List LineId) (states : List State) (tried : Tried) : Type 0 where
  pub among : Contains sources tried.source
  pub told : IsTold standing tried.source.0
  pub state : tried.state ≡ state_in states tried.source.0

-- those of these sources that are told were tried, each in its state by this list, and no others
pub record AreTriedIn (standing : Standing) (sources : List LineId) (states : List State) (tried : List Tried) : Type 0 where
  pub each : All (IsTriedIn standing sources states) tried
  pub whole : (source : LineId) → Contains sources source → IsTold standing source.0
      → Contains tried (record { source = source; state = state_in states source.0 })

-- at each source of the support that is told the state is the least one of the label as the scope stands
abbrev pub HasLeast : StateAlgebra → Target → Standing → List State → Type 0
HasLeast a target standing states = (source : ℕ) → IsToldInSupport target standing source
    → (labels : List StateSet) → IsLabels a standing labels → IsTakenOf a.count (label_at labels source) (state_in states source)

-- the desk has the least states at the sources of the support that are told, and blames sources of the support for the failure of their pair
pub record BlamesLeast (a : StateAlgebra) (target : Target) (standing : Standing) (desk : Desk) : Type 0 where
  pub least : HasLeast a target standing desk.states.items
  pub blamed : AreInSupport standing.net standing.rules target.path desk.blame.sources
