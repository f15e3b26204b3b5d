-- The growth of a tree on a scope, in words that are spoken inside this crate alone (this project's own).
use Rattle.std.specs.Prelude.{◌≡◌, ℕ, ◌+◌, ◌<◌, ◌≤◌, ◌↔◌, Bool, true, false, List, [], ◌∷◌, ◌++◌, length, take, map, All, AllPairs, Contains, Option, Some, None, IsSome}
use Rattle.pd_base.specs.Target.{Target}
use Rattle.pd_base.specs.declared.ids.LineId.{LineId}
use Rattle.pd_base.specs.declared.rules.Rules.{Rules}
use Rattle.netlist.specs.Circuit.{Circuit, source_count}
use Rattle.state_sets.specs.declared.state.State.{State}
use Rattle.state_sets.specs.declared.state.StateSet.{StateSet}
use Rattle.state_sets.specs.States.{Has, IsWithin, all_states}
use Rattle.state_sets.specs.StateAlgebra.{StateAlgebra}
use Rattle.state_sets.specs.Labellings.{label_at}
use Rattle.state_laws.specs.declared.split.Split.{Split as CaseSplit}
use Rattle.state_laws.specs.declared.split.Half.{Half}
use Rattle.state_laws.specs.Halves.{IsInHalf}
use Rattle.state_laws.specs.Nodes.{MayBe}
use Rattle.trees.specs.declared.tree.Node.{Node}
use Rattle.trees.specs.declared.tree.Node.TheVariants.{Waiting, Split}
use Rattle.trees.specs.Spent.{IsInSupport}
use Rattle.trees.specs.Trees.{split_count}
use Rattle.trees.specs.Growing.{Grows}
use Rattle.implication.specs.declared.assumption.Assumption.{Assumption}
use Rattle.implication.specs.declared.scope.ScopeMark.{ScopeMark}
use Rattle.implication.specs.Assumptions.{entered_pins, MayUnder, ClosesUnder}
use Rattle.implication.specs.Standing.{Standing, IsLabels, IsTold, IsOpenIn, IsEmptiedIn}
use Rattle.implication.specs.Moves.{with_assumed, grown, back_at, risen}
use Rattle.implication.specs.NodeScopes.{beginning_of, AllowSame, StandsAtNode}
use Rattle.justify.specs.declared.closers.Closers.{Closers}
use Rattle.justify.specs.declared.growing.Growth.{Growth}
use Rattle.justify.specs.declared.growing.Place.{Place}
use Rattle.justify.specs.declared.trial.Tried.{Tried}
use Rattle.justify.specs.Choices.{IsUsefulSplit}
use Rattle.justify.specs.Closers.{ClosesByKept, kept_of}

-- the place of a half of a split: the states of that half are assumed of its source, and what closed the trial above is kept
pub record IsHalfPlace (a : StateAlgebra) (split : CaseSplit) (mark : ScopeMark) (closers : Option Closers) (second : Bool) (place : Place) : Type 0 where
  pub at_mark : place.mark ≡ mark
  pub at_source : place.source ≡ split.line
  pub keeps : place.closers ≡ closers
  pub within : IsWithin a.count place.set
  pub means : (state : State) → Has a.count place.set state ↔ ((state.0 < a.count) × IsInHalf a split.kind second state)

-- a split is one node more, and the places of its halves, the first half last
pub record IsSplitAt (a : StateAlgebra) (split : CaseSplit) (mark : ScopeMark) (closers : Option Closers) (old new : Growth) : Type 0 where
  pub first_place : Place
  pub second_place : Place
  pub nodes : new.nodes.items ≡ old.nodes.items ++ Split split ∷ []
  pub places : new.places.items ≡ (old.places.items ++ second_place ∷ []) ++ first_place ∷ []
  pub counted : new.splits ≡ old.splits + 1
  pub in_first : IsHalfPlace a split mark closers false first_place
  pub in_second : IsHalfPlace a split mark closers true second_place

-- a leaf that waits is one node more
pub record IsWaitingAt (old new : Growth) : Type 0 where
  pub nodes : new.nodes.items ≡ old.nodes.items ++ Waiting ∷ []
  pub places : new.places.items ≡ old.places.items
  pub counted : new.splits ≡ old.splits

-- an open node becomes a leaf that waits where the budget is spent, and else a split that may be chosen
pub data IsExtended (a : StateAlgebra) (target : Target) (standing : Standing) (budget : ℕ) (old new : Growth) : Type 0 where
  waits : old.splits ≡ budget → IsWaitingAt old new → IsExtended a target standing budget old new
  splits : (split : CaseSplit) (mark : ScopeMark) (closers : Option Closers) → mark.at ≡ length standing.assumptions
      → IsUsefulSplit a target standing split → ClosesByKept a standing.net standing.rules target standing.assumptions closers
      → old.splits < budget → IsSplitAt a split mark closers old new → IsExtended a target standing budget old new

-- the place of the root: nothing is assumed there
abbrev pub root_place : ℕ → ScopeMark → LineId → Place
root_place count mark source = record {
  mark = mark;
  source = source;
  set = all_states count;
  sought = record { frontier = record { steps = 0; begun_lines = 0; changes = 0 }; sources = 0 };
  closers = None;
}

-- with this set assumed of a source, the assumptions leave lines the same states as the node of a tree below these halves
abbrev pub AllowAsNodeWith : StateAlgebra → Circuit → Rules → Target → List Assumption → LineId → StateSet → List Half → Type 0
AllowAsNodeWith a c rules target assumptions source set halves =
    AllowSame a.count c
    (λ line state. MayUnder a c rules (beginning_of target) assumptions line state × (line ≡ source.0 → Has a.count set state))
    (MayBe a c rules target halves)

-- At this place a tree is due below these halves: with the place's set assumed, the assumptions at its mark leave lines the states
-- that the node there has. They are the path's pins and sets of sources, and close nothing; and the sources that are kept close the trial
-- of the node above.
pub record IsPlace (a : StateAlgebra) (c : Circuit) (rules : Rules) (target : Target) (assumptions : List Assumption) (place : Place) (halves : List Half) : Type 0 where
  pub longer : length target.path.steps ≤ length assumptions
  pub entered : entered_pins assumptions ≡ target.path.steps
  pub left_open : ¬ ClosesUnder a c rules (beginning_of target) assumptions
  pub in_support : IsInSupport c rules target.path place.source.0
  pub within : IsWithin a.count place.set
  pub node : AllowAsNodeWith a c rules target assumptions place.source place.set halves
  pub closes : ClosesByKept a c rules target assumptions place.closers

-- the scope stands at the node of a place, where the trial closes by the sources that are kept as long as they have their states
pub record StandsAtPlace (a : StateAlgebra) (target : Target) (standing : Standing) (place : Place) : Type 0 where
  pub node : StandsAtNode a target standing
  pub closes : ClosesByKept a standing.net standing.rules target standing.assumptions place.closers

-- the sources of these places are told
abbrev pub AreToldPlaces : Standing → List Place → Type 0
AreToldPlaces standing places = All (λ place. IsTold standing place.source.0) places

-- a place at which a tree is due, and the halves below which the tree is
pub record DueTree : Type 0 where
  pub place : Place
  pub halves : List Half

-- Trees are due at all of these places, each place as the assumptions stood at its mark, and no later one has a later mark.
pub record AreStacked (a : StateAlgebra) (c : Circuit) (rules : Rules) (target : Target) (assumptions : List Assumption) (due : List DueTree) : Type 0 where
  pub reached : All (λ tree. tree.place.mark.at ≤ length assumptions) due
  pub falling : AllPairs (λ tree later. later.place.mark.at ≤ tree.place.mark.at) due
  pub each : All (λ tree. IsPlace a c rules target (take tree.place.mark.at assumptions) tree.place tree.halves) due

-- a tree has grown to these nodes, with these places left, the next one first
pub record IsGrowing (a : StateAlgebra) (c : Circuit) (rules : Rules) (target : Target) (budget : ℕ) (assumptions : List Assumption)
    (places : List Place) (nodes : List Node) (splits : ℕ) : Type 0 where
  pub due : List DueTree
  pub left : map (λ tree. tree.place) due ≡ places
  pub stacked : AreStacked a c rules target assumptions due
  pub grows : Grows c rules target nodes (map (λ tree. tree.halves) due)
  pub counted : split_count nodes ≡ splits
  pub within : splits ≤ budget
  pub waits : Contains nodes Waiting → splits ≡ budget

-- a scope that may go back to this length, where no conflict stands, can go back to the mark of the place and assume its set there
pub record CanEnter (a : StateAlgebra) (start : ℕ) (place : Place) (standing : Standing) : Type 0 where
  pub late : start ≤ place.mark.at
  pub reached : place.mark.at ≤ length standing.assumptions
  pub is_source : place.source.0 < source_count standing.net
  pub told : IsTold standing place.source.0
  pub within : IsWithin a.count place.set
  pub begun : IsSome standing.beginning
  pub free : standing.conflict ≡ None
  pub left_open : IsOpenIn a (back_at standing place.mark.at)

-- at the mark of the place the path's pins are entered, and the sources that are kept close the trial of the node there
pub record IsKeptAtMark (a : StateAlgebra) (target : Target) (place : Place) (standing : Standing) : Type 0 where
  pub beginning : standing.beginning ≡ Some (beginning_of target)
  pub entered : entered_pins (take place.mark.at standing.assumptions) ≡ target.path.steps
  pub closes : ClosesByKept a standing.net standing.rules target (take place.mark.at standing.assumptions) place.closers

-- with the place's set assumed at the node above, where the scope stands, the source may be in no other state than the one tried
abbrev pub IsHeldAt : StateAlgebra → Standing → Place → Tried → Type 0
IsHeldAt a standing place entry = (labels : List StateSet) → IsLabels a standing labels → (state : State)
    → Has a.count (label_at labels entry.source.0) state → (entry.source.0 ≡ place.source.0 → Has a.count place.set state)
    → state ≡ entry.state

-- some sources are kept, and that holds of each
abbrev pub AreHeldAt : StateAlgebra → Standing → Place → Type 0
AreHeldAt a standing place = (kept : Closers) × (place.closers ≡ Some kept) × All (IsHeldAt a standing place) (kept_of kept)

-- the scope went back to the mark of the place and assumed its set, and each line has some state left
pub record IsEntered (a : StateAlgebra) (place : Place) (old new : Standing) : Type 0 where
  pub now : new ≡ grown (back_at old place.mark.at) (with_assumed a.count (take place.mark.at old.assumptions) place.source place.set)
  pub left_open : IsOpenIn a new

-- that set leaves some line no state; so the scope went back again, and the conflict was counted
pub record IsShut (a : StateAlgebra) (place : Place) (old new : Standing) : Type 0 where
  pub now : new ≡ record (back_at old place.mark.at) { closings = risen old.closings }
  pub line : ℕ
  pub emptied : IsEmptiedIn a
      (grown (back_at old place.mark.at) (with_assumed a.count (take place.mark.at old.assumptions) place.source place.set)) line
