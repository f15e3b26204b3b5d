-- What a spent tree shows of pairs of vectors: at each split and each open leaf, those that have the least states of the hull at the
-- sources of the support fail (this project's own).
use Rattle.std.specs.Prelude.{◌≡◌, ⊤, ℕ, true, false, List, []}
use Rattle.pd_base.specs.Pair.{Vectors}
use Rattle.pd_base.specs.Route.{Route}
use Rattle.pd_base.specs.Target.{Target}
use Rattle.pd_base.specs.declared.rules.Rules.{Rules}
use Rattle.netlist.specs.Circuit.{Circuit}
use Rattle.netlist.specs.Conditions.{Meets}
use Rattle.netlist.specs.LinkedPairs.{IsOfRules}
use Rattle.state_sets.specs.declared.state.StateSet.{StateSet}
use Rattle.state_sets.specs.LineStates.{state_under}
use Rattle.state_sets.specs.Labellings.{label_at}
use Rattle.state_sets.specs.Starts.{IsLeast}
use Rattle.state_laws.specs.declared.split.Half.{Half}
use Rattle.state_laws.specs.Nodes.{IsNodeHull}
use Rattle.trees.specs.declared.tree.Node.{Node}
use Rattle.trees.specs.Trees.{Cases, preorder}
use Rattle.trees.specs.Trees.Cases.{closed, waiting, split_at}
use Rattle.trees.specs.Algebras.{algebra_of}
use Rattle.trees.specs.Refutations.{below}
use Rattle.trees.specs.Spent.{IsInSupport}

-- the pair has at each source of the support the least state that the labels have there
abbrev pub TakesLeast : Circuit → Rules → Route → List StateSet → Vectors → Type 0
TakesLeast c rules path labels pair =
    (source : ℕ) → IsInSupport c rules path source
    → IsLeast (algebra_of rules).count (label_at labels source) (state_under (algebra_of rules) c pair source)

-- the pair is one of the rules, and it has the least states there where any pair of the rules has them
pub record TakesLeastOfRules (c : Circuit) (rules : Rules) (path : Route) (labels : List StateSet) (pair : Vectors) : Type 0 where
  pub of_rules : IsOfRules c rules pair
  pub takes : (other : Vectors) → IsOfRules c rules other → TakesLeast c rules path labels other → TakesLeast c rules path labels pair

-- At the node below these halves there is a pair that has the least states of the hull at the sources of the support, and it is no test:
-- every pair that has them, whatever it has at other sources, is no pair of the rules or fails the conditions. Where any pair of the rules
-- has them, so that links ask for no other states there, one is named.
pub record LeastPairsFailAt (c : Circuit) (rules : Rules) (target : Target) (halves : List Half) : Type 0 where
  pub hull : List StateSet
  pub is_hull : IsNodeHull (algebra_of rules) c rules target halves hull
  pub some : (pair : Vectors) × TakesLeast c rules target.path hull pair
  pub some_of_rules : (pair : Vectors) × TakesLeastOfRules c rules target.path hull pair
  pub fails : (pair : Vectors) → TakesLeast c rules target.path hull pair → IsOfRules c rules pair → ¬ Meets c target pair

-- it is so at each split and each open leaf of these cases
abbrev pub LeastPairsFailBelow : Circuit → Rules → Target → List Half → Cases → Type 0
LeastPairsFailBelow c rules target halves closed = ⊤
LeastPairsFailBelow c rules target halves waiting = LeastPairsFailAt c rules target halves
LeastPairsFailBelow c rules target halves (split_at split first second) =
    LeastPairsFailAt c rules target halves
    × LeastPairsFailBelow c rules target (below halves split false) first
    × LeastPairsFailBelow c rules target (below halves split true) second

-- it is so of the tree with these nodes
abbrev pub ShowsFailures : Circuit → Rules → Target → List Node → Type 0
ShowsFailures c rules target nodes = (cases : Cases) → nodes ≡ preorder cases → LeastPairsFailBelow c rules target [] cases
