-- When a tree of cases refutes: in no case can a pair of vectors meet the conditions (this project's own).
use Rattle.std.specs.Prelude.{◌≡◌, ◌<◌, Bool, true, false, List, [], ◌∷◌, ◌++◌}
use Rattle.pd_base.specs.Target.{Target}
use Rattle.pd_base.specs.declared.rules.Rules.{Rules}
use Rattle.pd_base.specs.declared.rules.Rules.TheVariants.{One, Two, Linked}
use Rattle.netlist.specs.Circuit.{Circuit, source_count, line_count}
use Rattle.state_laws.specs.declared.split.Split.{Split}
use Rattle.state_laws.specs.declared.split.Half.{Half}
use Rattle.state_laws.specs.Halves.{half_of}
use Rattle.state_laws.specs.Nodes.{ClosesAtNode}
use Rattle.trees.specs.Algebras.{algebra_of}
use Rattle.trees.specs.declared.tree.Node.{Node}
use Rattle.trees.specs.Trees.{Cases, preorder, IsSourceKind, IsSourceSplit}
use Rattle.trees.specs.Trees.Cases.{closed, waiting, split_at}

-- the halves above a child: those above the split, and the child's own
abbrev pub below : List Half → Split → Bool → List Half
below halves split second = halves ++ half_of split second ∷ []

-- a split at any line of the circuit, inside the cone of a path's end or outside it, by its last value or its steadiness
pub record IsLineSplit (c : Circuit) (split : Split) : Type 0 where
  pub in_circuit : split.line.0 < line_count c
  pub kind : IsSourceKind split.kind

-- A split of a refutation under these rules. Under rules one it is at a source, as their file of proofs has it; under rules two it may be at
-- any line; and under linked rules, whose states have first values, it may be by first values, too.
abbrev pub IsSplitOf : Circuit → Rules → Split → Type 0
IsSplitOf c One split = IsSourceSplit (source_count c) split
IsSplitOf c Two split = IsLineSplit c split
IsSplitOf c (Linked links) split = split.line.0 < line_count c

-- the cases refute, below these halves: each split is one of a refutation, no leaf is open, and each closed leaf's node closes
abbrev pub RefutesBelow : Circuit → Rules → Target → List Half → Cases → Type 0
RefutesBelow c rules target halves closed = ClosesAtNode (algebra_of rules) c rules target halves
RefutesBelow c rules target halves waiting = ⊥
RefutesBelow c rules target halves (split_at split first second) =
    IsSplitOf c rules split
    × RefutesBelow c rules target (below halves split false) first
    × RefutesBelow c rules target (below halves split true) second

-- the nodes are those of a tree that refutes a target under these rules
pub record IsRefutation (c : Circuit) (rules : Rules) (target : Target) (nodes : List Node) : Type 0 where
  pub cases : Cases
  pub tree : nodes ≡ preorder cases
  pub refutes : RefutesBelow c rules target [] cases
