-- Where a tree of cases is first at fault, as nodes are counted in preorder from 0 (this project's own).
use Rattle.std.specs.Prelude.{◌≡◌, ◌≢◌, ℕ, ◌+◌, true, false, List, [], length, Contains}
use Rattle.pd_base.specs.Target.{Target}
use Rattle.pd_base.specs.declared.rules.Rules.{Rules}
use Rattle.netlist.specs.Circuit.{Circuit}
use Rattle.state_sets.specs.declared.state.StateSet.{StateSet}
use Rattle.state_sets.specs.StateAlgebra.{StateAlgebra}
use Rattle.state_laws.specs.declared.split.Split.{Split as CaseSplit}
use Rattle.state_laws.specs.declared.split.Half.{Half}
use Rattle.state_laws.specs.Nodes.{ClosesAtNode}
use Rattle.trees.specs.declared.tree.Node.{Node}
use Rattle.trees.specs.declared.tree.Node.TheVariants.{Closed, Waiting, Split}
use Rattle.trees.specs.Trees.{Cases, preorder, split_count}
use Rattle.trees.specs.Trees.Cases.{closed, waiting, split_at}
use Rattle.trees.specs.Algebras.{algebra_of}
use Rattle.trees.specs.Refutations.{below, IsSplitOf}
use Rattle.trees.specs.Spent.{IsOpen, IsDue}

-- what a refutation with one kind of states asks of a node below these halves: a closed leaf closes there, no leaf is open, a split is one
-- of a refutation
abbrev pub RefutesAtNode : StateAlgebra → Circuit → Rules → Target → List Half → Node → Type 0
RefutesAtNode a c rules target halves Closed = ClosesAtNode a c rules target halves
RefutesAtNode a c rules target halves Waiting = ⊥
RefutesAtNode a c rules target halves (Split split) = IsSplitOf c rules split

-- the same with the kind of states of the rules
abbrev pub IsRightInRefutation : Circuit → Rules → Target → List Half → Node → Type 0
IsRightInRefutation c rules = RefutesAtNode (algebra_of rules) c rules

-- what a spent tree asks of a node below these halves: a closed leaf closes there, an open one does not and its trial does, a
-- split is due
abbrev pub IsRightInSpent : Circuit → Rules → Target → List Half → Node → Type 0
IsRightInSpent c rules target halves Closed = ClosesAtNode (algebra_of rules) c rules target halves
IsRightInSpent c rules target halves Waiting = (hull : List StateSet) × IsOpen c rules target halves hull
IsRightInSpent c rules target halves (Split split) = IsDue c rules target halves split

-- each node is right, below these halves
abbrev pub AreRight : (List Half → Node → Type 0) → List Half → Cases → Type 0
AreRight IsRight halves closed = IsRight halves Closed
AreRight IsRight halves waiting = IsRight halves Waiting
AreRight IsRight halves (split_at split first second) =
    IsRight halves (Split split)
    × AreRight IsRight (below halves split false) first
    × AreRight IsRight (below halves split true) second

-- the node at the root of these cases
abbrev pub root_of : Cases → Node
root_of closed = Closed
root_of waiting = Waiting
root_of (split_at split first second) = Split split

-- The first node that is not right, below these halves, has this place: it is the root; or the root is right, and it is the first
-- one in the first half; or no node of the first half is such either, and it is the first one in the second half.
pub data IsFirstFault (IsRight : List Half → Node → Type 0) : List Half → Cases → ℕ → Type 0 where
  at_root : {halves : List Half} {cases : Cases} → (IsRight halves (root_of cases) → ⊥) → IsFirstFault IsRight halves cases 0
  in_first : {halves : List Half} {split : CaseSplit} {first second : Cases} {place : ℕ}
      → IsRight halves (Split split) → IsFirstFault IsRight (below halves split false) first place
      → IsFirstFault IsRight halves (split_at split first second) (1 + place)
  in_second : {halves : List Half} {split : CaseSplit} {first second : Cases} {place : ℕ}
      → IsRight halves (Split split) → AreRight IsRight (below halves split false) first
      → IsFirstFault IsRight (below halves split true) second place
      → IsFirstFault IsRight halves (split_at split first second) (1 + (length (preorder first) + place))

-- the nodes are those of a tree whose first node that is not right has this place
pub record IsFirstFaultOf (IsRight : List Half → Node → Type 0) (nodes : List Node) (place : ℕ) : Type 0 where
  pub cases : Cases
  pub tree : nodes ≡ preorder cases
  pub first : IsFirstFault IsRight [] cases place

-- the first node at which a tree fails to refute
abbrev pub IsFaultOfRefutation : Circuit → Rules → Target → List Node → ℕ → Type 0
IsFaultOfRefutation c rules target nodes place =
    IsFirstFaultOf (IsRightInRefutation c rules target) nodes place

-- Where a tree fails to show that this budget was spent: at node 0 where it has more or fewer splits, or no open leaf; else at the
-- first node that is not right.
pub data IsFaultOfSpent (c : Circuit) (rules : Rules) (target : Target) (budget : ℕ) (nodes : List Node)
    : ℕ → Type 0 where
  other_splits : split_count nodes ≢ budget → IsFaultOfSpent c rules target budget nodes 0
  none_open : (Contains nodes Waiting → ⊥) → IsFaultOfSpent c rules target budget nodes 0
  at_node : {place : ℕ} → split_count nodes ≡ budget → Contains nodes Waiting
      → IsFirstFaultOf (IsRightInSpent c rules target) nodes place
      → IsFaultOfSpent c rules target budget nodes place
