-- The versions of the proofs file: under which rules its proofs are judged, and at which lines its trees may split (this project's own
-- format).
use Rattle.std.specs.Prelude.{◌≡◌, ◌<◌, ⊤, ℕ, Bool, true, false, ◌&&◌, cond, nat_lt, List, codes}
use Rattle.std.specs.List.{list_all}
use Rattle.pd_base.specs.declared.rules.Rules.{Rules}
use Rattle.pd_base.specs.declared.rules.Rules.TheVariants.{One, Two, Linked}
use Rattle.netlist.specs.Circuit.{Circuit, line_count, source_count}
use Rattle.state_laws.specs.declared.split.SplitKind.{SplitKind}
use Rattle.state_laws.specs.declared.split.SplitKind.TheVariants.{LastValue, Steadiness, FirstValue}
use Rattle.state_laws.specs.declared.split.Split.{Split as CaseSplit}
use Rattle.trees.specs.declared.tree.Node.{Node}
use Rattle.trees.specs.declared.tree.Node.TheVariants.{Closed, Waiting, Split}
use Rattle.trees.specs.Trees.{IsSourceKind}
use Rattle.runs.specs.declared.run.Proof.{Proof}
use Rattle.run_files.specs.declared.version.ProofsVersion.{ProofsVersion}
use Rattle.run_files.specs.declared.version.ProofsVersion.TheVariants.{First, Second, Third, Fourth, Fifth}

-- ---- what a version says of rules

-- the version of proofs that are judged under these rules and split at sources alone; which links linked rules have, no version tells
abbrev pub rules_version : Rules → ProofsVersion
rules_version One = First
rules_version Two = Second
rules_version (Linked links) = Third

-- the version for the same rules whose trees split at sources alone
abbrev pub at_sources : ProofsVersion → ProofsVersion
at_sources First = First
at_sources Second = Second
at_sources Third = Third
at_sources Fourth = Second
at_sources Fifth = Third

-- proofs of this version are judged under these rules
abbrev pub IsVersionOf : Rules → ProofsVersion → Type 0
IsVersionOf rules version = at_sources version ≡ rules_version rules

-- ---- what it says of trees

-- below this number are the lines at which trees of the version may split: those of sources, or all
abbrev pub lines_to_split : Circuit → ProofsVersion → ℕ
lines_to_split c First = source_count c
lines_to_split c Second = source_count c
lines_to_split c Third = source_count c
lines_to_split c Fourth = line_count c
lines_to_split c Fifth = line_count c

-- the fifth version has splits by first values, too
abbrev pub HasKind : ProofsVersion → SplitKind → Type 0
HasKind First kind = IsSourceKind kind
HasKind Second kind = IsSourceKind kind
HasKind Third kind = IsSourceKind kind
HasKind Fourth kind = IsSourceKind kind
HasKind Fifth kind = ⊤

-- a split that trees of the version may have
pub record IsSplitIn (c : Circuit) (version : ProofsVersion) (split : CaseSplit) : Type 0 where
  pub line : split.line.0 < lines_to_split c version
  pub kind : HasKind version split.kind

-- a node that they may have
abbrev pub IsNodeIn : Circuit → ProofsVersion → Node → Type 0
IsNodeIn c version Closed = ⊤
IsNodeIn c version Waiting = ⊤
IsNodeIn c version (Split split) = IsSplitIn c version split

-- ---- the version of a file that is written

-- whether a split is by the last value or the steadiness, as those of trees of sources are
abbrev pub is_source_kind : SplitKind → Bool
is_source_kind LastValue = true
is_source_kind Steadiness = true
is_source_kind FirstValue = false

-- whether a node is no split, or one at one of so many sources by its last value or its steadiness
abbrev pub is_source_node : ℕ → Node → Bool
is_source_node sources Closed = true
is_source_node sources Waiting = true
is_source_node sources (Split split) = nat_lt split.line.0 sources && is_source_kind split.kind

-- whether these are the nodes of a tree of sources
abbrev pub is_tree_of_sources : ℕ → List Node → Bool
is_tree_of_sources sources nodes = list_all (is_source_node sources) nodes

-- whether all trees of these proofs are trees of sources
abbrev pub are_trees_of_sources : ℕ → List Proof → Bool
are_trees_of_sources sources proofs = list_all (λ proof. is_tree_of_sources sources proof.tree) proofs

-- the version of trees that split at other lines, too
abbrev pub at_lines : Rules → ProofsVersion
at_lines One = First
at_lines Two = Fourth
at_lines (Linked links) = Fifth

-- the version in which proofs that are judged under these rules are written: where all trees are trees of sources, or there is none, that of
-- such trees
abbrev pub version_of : Circuit → Rules → List Proof → ProofsVersion
version_of c rules proofs = cond (are_trees_of_sources (source_count c) proofs) (rules_version rules) (at_lines rules)

-- ---- how it is spelled

-- its number
abbrev pub version_number : ProofsVersion → ℕ
version_number First = 1
version_number Second = 2
version_number Third = 3
version_number Fourth = 4
version_number Fifth = 5

-- its first line
abbrev pub version_line : ProofsVersion → List ℕ
version_line First = codes "pdfgen proofs 1"
version_line Second = codes "pdfgen proofs 2"
version_line Third = codes "pdfgen proofs 3"
version_line Fourth = codes "pdfgen proofs 4"
version_line Fifth = codes "pdfgen proofs 5"
