-- When a tree of cases shows that a search spent its budget: so many splits, each of which was due, and at each open node a pair
-- was tried and failed (this project's own).
use Rattle.std.specs.Prelude.{◌≡◌, ℕ, ◌<◌, Bool, true, false, List, [], Contains}
use Rattle.pd_base.specs.Links.{links_of}
use Rattle.pd_base.specs.Target.{Target}
use Rattle.pd_base.specs.declared.rules.Rules.{Rules}
use Rattle.pd_base.specs.Route.{Route}
use Rattle.netlist.specs.Circuit.{Circuit, source_count}
use Rattle.netlist.specs.LinkedPairs.{IsSupported}
use Rattle.netlist.specs.Paths.{end_of}
use Rattle.state_sets.specs.declared.state.State.{State}
use Rattle.state_sets.specs.declared.state.StateSet.{StateSet}
use Rattle.state_sets.specs.States.{Has}
use Rattle.state_sets.specs.Labellings.{label_at}
use Rattle.state_sets.specs.StateAlgebra.{StateAlgebra}
use Rattle.state_sets.specs.Starts.{IsLeast}
use Rattle.state_sets.specs.Hulls.{IsNarrowingOf, HasNoEmptySet, Closes}
use Rattle.state_laws.specs.declared.split.SplitKind.{SplitKind}
use Rattle.state_laws.specs.declared.split.Split.{Split}
use Rattle.state_laws.specs.declared.split.Half.{Half}
use Rattle.state_laws.specs.Halves.{IsInHalf}
use Rattle.state_laws.specs.Nodes.{MayBe, IsNodeHull, ClosesAtNode}
use Rattle.trees.specs.declared.tree.Node.{Node}
use Rattle.trees.specs.declared.tree.Node.TheVariants.{Waiting}
use Rattle.trees.specs.Trees.{Cases, preorder, split_count, IsSourceKind}
use Rattle.trees.specs.Trees.Cases.{closed, waiting, split_at}
use Rattle.trees.specs.Algebras.{algebra_of}
use Rattle.trees.specs.Refutations.{below}

-- the support of a path under rules: the sources in the transitive fan-in of its end, and, with each linked source of the support,
-- those in the transitive fan-in of the line to which it is linked
pub record IsInSupport (c : Circuit) (rules : Rules) (path : Route) (source : ℕ) : Type 0 where
  pub is_source : source < source_count c
  pub supported : IsSupported c (links_of rules) (end_of c path) source

-- what a line may be in at the trial of a node: as at the node, and each source of the support only in the least state that it has
-- in the hull there
pub record MayTry (c : Circuit) (rules : Rules) (target : Target) (halves : List Half) (hull : List StateSet) (line : ℕ) (state : State)
    : Type 0 where
  pub at_node : MayBe (algebra_of rules) c rules target halves line state
  pub least : IsInSupport c rules target.path line → IsLeast (algebra_of rules).count (label_at hull line) state

-- a node that does not close, and whose trial does; this is its hull
pub record IsOpen (c : Circuit) (rules : Rules) (target : Target) (halves : List Half) (hull : List StateSet) : Type 0 where
  pub is_hull : IsNodeHull (algebra_of rules) c rules target halves hull
  pub none_empty : HasNoEmptySet c hull
  pub trial : Closes (algebra_of rules) c (IsNarrowingOf c (links_of rules) target.kind target.path.steps) (MayTry c rules target halves hull)

-- some state of the set is in this half
abbrev pub HasInHalf : StateAlgebra → StateSet → SplitKind → Bool → Type 0
HasInHalf a set kind second = (state : State) × Has a.count set state × IsInHalf a kind second state

-- a split is due: its node does not close, its trial does, and the split is on a source of the support, by its last value or its
-- steadiness, and has a state of each half in the hull
pub record IsDue (c : Circuit) (rules : Rules) (target : Target) (halves : List Half) (split : Split) : Type 0 where
  pub hull : List StateSet
  pub is_open : IsOpen c rules target halves hull
  pub in_support : IsInSupport c rules target.path split.line.0
  pub kind : IsSourceKind split.kind
  pub in_first : HasInHalf (algebra_of rules) (label_at hull split.line.0) split.kind false
  pub in_second : HasInHalf (algebra_of rules) (label_at hull split.line.0) split.kind true

-- the cases are such, below these halves: each closed leaf's node closes, each open leaf's does not and its trial does, and each
-- split is due
abbrev pub IsSpentBelow : Circuit → Rules → Target → List Half → Cases → Type 0
IsSpentBelow c rules target halves closed = ClosesAtNode (algebra_of rules) c rules target halves
IsSpentBelow c rules target halves waiting = (hull : List StateSet) × IsOpen c rules target halves hull
IsSpentBelow c rules target halves (split_at split first second) =
    IsDue c rules target halves split
    × IsSpentBelow c rules target (below halves split false) first
    × IsSpentBelow c rules target (below halves split true) second

-- the nodes are those of a tree that spent this budget on a path: it has exactly so many splits, and an open leaf
pub record IsSpent (c : Circuit) (rules : Rules) (target : Target) (budget : ℕ) (nodes : List Node) : Type 0 where
  pub cases : Cases
  pub tree : nodes ≡ preorder cases
  pub splits : split_count nodes ≡ budget
  pub waits : Contains nodes Waiting
  pub spent : IsSpentBelow c rules target [] cases
