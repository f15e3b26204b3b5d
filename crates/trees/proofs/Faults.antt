-- Which trees are right at each node, and that no tree is so that has a first node at fault.
use Rattle.std.proofs.Common.{ℕ, true, false, List, [], sym, subst, ◌∙◌}
use Rattle.pd_base.specs.Target.{Target}
use Rattle.pd_base.specs.declared.rules.Rules.{Rules}
use Rattle.netlist.specs.Circuit.{Circuit}
use Rattle.state_laws.specs.declared.split.Half.{Half}
use Rattle.trees.specs.declared.tree.Node.{Node}
use Rattle.trees.specs.Trees.{Cases}
use Rattle.trees.specs.Trees.Cases.{closed, waiting, split_at}
use Rattle.trees.proofs.Preorders.{preorder_unique}
use Rattle.trees.specs.Refutations.{below, RefutesBelow, IsRefutation}
use Rattle.trees.specs.Spent.{IsSpentBelow, IsSpent}
use Rattle.trees.specs.Faults.{IsRightInRefutation, IsRightInSpent, AreRight, IsFirstFault, IsFaultOfRefutation, IsFaultOfSpent, root_of}
use Rattle.trees.specs.Faults.IsFirstFault.{at_root, in_first, in_second}
use Rattle.trees.specs.Faults.IsFaultOfSpent.{other_splits, none_open, at_node}

module _ (c : Circuit) (rules : Rules) (target : Target) where
  -- cases that are right at each node refute
  pub right_refutes : (cases : Cases) (halves : List Half) → AreRight (IsRightInRefutation c rules target) halves cases
      → RefutesBelow c rules target halves cases
  right_refutes closed halves right = right
  right_refutes waiting halves right = right
  right_refutes (split_at split first second) halves right =
      (right.0, right_refutes first (below halves split false) right.1, right_refutes second (below halves split true) right.2)

  pub refutes_right : (cases : Cases) (halves : List Half) → RefutesBelow c rules target halves cases
      → AreRight (IsRightInRefutation c rules target) halves cases
  refutes_right closed halves right = right
  refutes_right waiting halves right = right
  refutes_right (split_at split first second) halves right =
      (right.0, refutes_right first (below halves split false) right.1, refutes_right second (below halves split true) right.2)

  pub right_spent : (cases : Cases) (halves : List Half) → AreRight (IsRightInSpent c rules target) halves cases
      → IsSpentBelow c rules target halves cases
  right_spent closed halves right = right
  right_spent waiting halves right = right
  right_spent (split_at split first second) halves right =
      (right.0, right_spent first (below halves split false) right.1, right_spent second (below halves split true) right.2)

  pub spent_right : (cases : Cases) (halves : List Half) → IsSpentBelow c rules target halves cases
      → AreRight (IsRightInSpent c rules target) halves cases
  spent_right closed halves right = right
  spent_right waiting halves right = right
  spent_right (split_at split first second) halves right =
      (right.0, spent_right first (below halves split false) right.1, spent_right second (below halves split true) right.2)

module _ (IsRight : List Half → Node → Type 0) where
  root_right : (cases : Cases) (halves : List Half) → AreRight IsRight halves cases → IsRight halves (root_of cases)
  root_right closed halves right = right
  root_right waiting halves right = right
  root_right (split_at split first second) halves right = right.0

  -- cases with a first fault are not right at each node
  pub fault_not_right : {halves : List Half} {cases : Cases} {place : ℕ} → IsFirstFault IsRight halves cases place
      → AreRight IsRight halves cases → ⊥
  fault_not_right {halves} {cases} (at_root wrong) right = wrong (root_right cases halves right)
  fault_not_right (in_first here fault) right = fault_not_right fault right.1
  fault_not_right (in_second here first fault) right = fault_not_right fault right.2

-- a tree with a fault does not refute
pub fault_refutes_not : (c : Circuit) (rules : Rules) (target : Target) (nodes : List Node) (place : ℕ)
    → IsFaultOfRefutation c rules target nodes place → IsRefutation c rules target nodes → ⊥
fault_refutes_not c rules target nodes place fault refutation =
    let same = preorder_unique refutation.cases fault.cases (sym refutation.tree ∙ fault.tree) in
    fault_not_right (IsRightInRefutation c rules target) fault.first
    (subst (AreRight (IsRightInRefutation c rules target) []) same
    (refutes_right c rules target refutation.cases [] refutation.refutes))

-- nor does such a tree show that the budget was spent
pub fault_spent_not : (c : Circuit) (rules : Rules) (target : Target) (budget : ℕ) (nodes : List Node) (place : ℕ)
    → IsFaultOfSpent c rules target budget nodes place → IsSpent c rules target budget nodes → ⊥
fault_spent_not c rules target budget nodes place (other_splits differ) spent = differ spent.splits
fault_spent_not c rules target budget nodes place (none_open none) spent = none spent.waits
fault_spent_not c rules target budget nodes place (at_node splits waits fault) spent =
    let same = preorder_unique spent.cases fault.cases (sym spent.tree ∙ fault.tree) in
    fault_not_right (IsRightInSpent c rules target) fault.first
    (subst (AreRight (IsRightInSpent c rules target) []) same
    (spent_right c rules target spent.cases [] spent.spent))
