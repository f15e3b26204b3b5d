-- Trees of case splits, by which a refutation is written down (this project's own).
use Rattle.std.specs.Prelude.{◌≡◌, ⊤, ℕ, ◌<◌, Bool, true, false, List, [], ◌∷◌, ◌++◌, count_by, All}
use Rattle.state_laws.specs.declared.split.SplitKind.{SplitKind}
use Rattle.state_laws.specs.declared.split.SplitKind.TheVariants.{LastValue, Steadiness, FirstValue}
use Rattle.state_laws.specs.declared.split.Split.{Split as CaseSplit}
use Rattle.trees.specs.declared.tree.Node.{Node}
use Rattle.trees.specs.declared.tree.Node.TheVariants.{Closed, Waiting, Split}

-- a closed leaf, an open leaf, or a split of the cases at a line
pub data Cases : Type 0 where
  closed : Cases
  waiting : Cases
  split_at : CaseSplit → Cases → Cases → Cases

-- the nodes in preorder: a split, its first half, its second half
abbrev pub preorder : Cases → List Node
preorder closed = Closed ∷ []
preorder waiting = Waiting ∷ []
preorder (split_at split first second) = Split split ∷ (preorder first ++ preorder second)

-- the nodes are those of one whole tree
abbrev pub IsTree : List Node → Type 0
IsTree nodes = (cases : Cases) × (nodes ≡ preorder cases)

-- whether the node is a split
abbrev pub is_split : Node → Bool
is_split Closed = false
is_split Waiting = false
is_split (Split split) = true

-- how many splits there are among the nodes
abbrev pub split_count : List Node → ℕ
split_count nodes = count_by is_split nodes

-- not by first values
abbrev pub IsSourceKind : SplitKind → Type 0
IsSourceKind LastValue = ⊤
IsSourceKind Steadiness = ⊤
IsSourceKind FirstValue = ⊥

-- a split at one of so many sources, by its last value or its steadiness
pub record IsSourceSplit (sources : ℕ) (split : CaseSplit) : Type 0 where
  pub source : split.line.0 < sources
  pub kind : IsSourceKind split.kind

-- a node that is no split, or one at a source
abbrev pub IsSourceNode : ℕ → Node → Type 0
IsSourceNode sources Closed = ⊤
IsSourceNode sources Waiting = ⊤
IsSourceNode sources (Split split) = IsSourceSplit sources split

-- the nodes of a tree of sources, whose splits are all at sources
abbrev pub IsTreeOfSources : ℕ → List Node → Type 0
IsTreeOfSources sources nodes = All (IsSourceNode sources) nodes
