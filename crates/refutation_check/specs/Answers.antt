-- What the answer of a check tells of a tree, and how the engine stands then (this project's own).
use Rattle.std.specs.Prelude.{◌≡◌, ℕ, List, [], None}
use Rattle.pd_base.specs.Target.{Target}
use Rattle.pd_base.specs.declared.rules.Rules.{Rules}
use Rattle.netlist.specs.Circuit.{Circuit}
use Rattle.state_laws.specs.declared.split.Half.{Half}
use Rattle.trees.specs.declared.tree.Node.{Node}
use Rattle.trees.specs.Trees.{Cases, preorder}
use Rattle.trees.specs.Refutations.{IsRefutation}
use Rattle.trees.specs.Spent.{IsSpent}
use Rattle.trees.specs.Faults.{AreRight, IsFirstFaultOf, IsFaultOfRefutation, IsFaultOfSpent}
use Rattle.implication.specs.Standing.{Standing}
use Rattle.implication.specs.Settings.{IsSameSetting}
use Rattle.refutation_check.specs.declared.answer.TreeCheck.{TreeCheck}
use Rattle.refutation_check.specs.declared.answer.TreeCheck.TheVariants.{Yes, No}

-- each node of the tree is right, or this is the first one that is not
abbrev pub TellsOfNodes : (List Half → Node → Type 0) → List Node → TreeCheck → Type 0
TellsOfNodes IsRight nodes Yes = (cases : Cases) × (nodes ≡ preorder cases) × AreRight IsRight [] cases
TellsOfNodes IsRight nodes (No place) = IsFirstFaultOf IsRight nodes place

-- the same, but that it is not right is said only where that is told which it takes
abbrev pub TellsIf : Type 0 → (List Half → Node → Type 0) → List Node → TreeCheck → Type 0
TellsIf told IsRight nodes Yes = TellsOfNodes IsRight nodes Yes
TellsIf told IsRight nodes (No place) = told → TellsOfNodes IsRight nodes (No place)

-- the tree refutes, or this is the first node at which it does not
abbrev pub TellsOfRefutation : Circuit → Rules → Target → List Node → TreeCheck → Type 0
TellsOfRefutation c rules target nodes Yes = IsRefutation c rules target nodes
TellsOfRefutation c rules target nodes (No place) = IsFaultOfRefutation c rules target nodes place

-- the tree shows that the budget was spent, or this is the first node at which it does not
abbrev pub TellsOfSpent : Circuit → Rules → Target → ℕ → List Node → TreeCheck → Type 0
TellsOfSpent c rules target budget nodes Yes = IsSpent c rules target budget nodes
TellsOfSpent c rules target budget nodes (No place) = IsFaultOfSpent c rules target budget nodes place

-- no scope is open on the engine, which is made for the same as before
pub record IsIdleOn (old new : Standing) : Type 0 where
  pub setting : IsSameSetting old new
  pub idle : new.beginning ≡ None
