-- A tree of cases that is still growing: its first nodes in preorder, and the places behind them at which trees are still due (this
-- project's own).
use Rattle.std.specs.Prelude.{◌≡◌, ⊤, List, [], ◌∷◌, ◌++◌}
use Rattle.std.specs.List.{flat_map}
use Rattle.pd_base.specs.Target.{Target}
use Rattle.pd_base.specs.declared.rules.Rules.{Rules}
use Rattle.netlist.specs.Circuit.{Circuit}
use Rattle.state_laws.specs.declared.split.Half.{Half}
use Rattle.trees.specs.declared.tree.Node.{Node}
use Rattle.trees.specs.Trees.{Cases, preorder}
use Rattle.trees.specs.Spent.{IsSpentBelow}

-- there is one tree for each place, such as a spent tree has below the halves of that place
abbrev pub FillPlaces : Circuit → Rules → Target → List (List Half) → List Cases → Type 0
FillPlaces c rules target [] [] = ⊤
FillPlaces c rules target [] (cases ∷ trees) = ⊥
FillPlaces c rules target (halves ∷ places) [] = ⊥
FillPlaces c rules target (halves ∷ places) (cases ∷ trees) =
    IsSpentBelow c rules target halves cases × FillPlaces c rules target places trees

-- these nodes, with the nodes of these trees behind them, are those of one whole tree that is such as a spent tree is
pub record IsOneWith (c : Circuit) (rules : Rules) (target : Target) (nodes : List Node) (trees : List Cases) : Type 0 where
  pub cases : Cases
  pub tree : preorder cases ≡ nodes ++ flat_map preorder trees
  pub spent : IsSpentBelow c rules target [] cases

-- whatever trees fill these places, the next one first, make one whole tree of the nodes so far
abbrev pub Grows : Circuit → Rules → Target → List Node → List (List Half) → Type 0
Grows c rules target nodes places =
    (trees : List Cases) → FillPlaces c rules target places trees → IsOneWith c rules target nodes trees
