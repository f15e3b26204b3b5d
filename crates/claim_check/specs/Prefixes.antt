-- The prefixes of listed paths by their nodes, and the refutations of the least numbers that apply to these paths. Its words are spoken
-- inside this crate alone; how the nodes are given is in PrefixNodes.antt (this project's own).
use Rattle.std.specs.Prelude.{◌≡◌, ℕ, ◌-◌, ◌<◌, ◌≤◌, ◌+◌, ◌↔◌, min, false, List, [], length, Contains, slice_get, slice_index_or, Option, Some, None}
use Rattle.pd_base.specs.Route.{Route}
use Rattle.pd_base.specs.Target.{Target, target_of}
use Rattle.pd_base.specs.declared.fault.Direction.{Direction}
use Rattle.pd_base.specs.declared.fault.Kind.{Kind}
use Rattle.netlist.specs.Paths.{IsPrefixOf, prefix_of}
use Rattle.runs.specs.declared.run.Proof.{Proof}
use Rattle.good_runs.specs.Faults.{CitesRefutation, IsAbout, IsNumber, NoneApplies}

-- For each row of the list: the nodes of its path's prefixes, from the source alone to the whole path; and how many nodes the rows before
-- it have. And how many nodes there are.
pub record Nodes : Type 0 where
  pub rows : List (List ℕ)
  pub before : List ℕ
  pub count : ℕ

-- those of an empty list
abbrev pub no_nodes : Nodes
no_nodes = record { rows = []; before = []; count = 0 }

-- the node of the prefix of so many steps of the path in a row
abbrev pub node_at : Nodes → ℕ → ℕ → ℕ
node_at nodes row steps = slice_index_or (slice_index_or nodes.rows row []) steps 0

-- the path in a row of the list has the first steps of another path, so many
pub record HasPrefixInRow (routes : List Route) (row steps : ℕ) (path : Route) : Type 0 where
  pub other : Route
  pub is_listed : slice_get routes row ≡ Some other
  pub long : steps ≤ length other.steps
  pub same : prefix_of steps other ≡ prefix_of steps path

-- Each prefix of the paths has a node, and two have one node exactly where they are the same. The nodes below the number that stands before
-- a row are those of the prefixes of the paths before it.
pub record AreTreeNodes (routes : List Route) (nodes : Nodes) : Type 0 where
  pub rows_each : length nodes.rows ≡ length routes
  pub before_each : length nodes.before ≡ length routes
  pub long : (row : ℕ) (path : Route) → slice_get routes row ≡ Some path
      → length (slice_index_or nodes.rows row []) ≡ length path.steps + 1
  pub within : (row steps : ℕ) (path : Route) → slice_get routes row ≡ Some path → steps ≤ length path.steps
      → node_at nodes row steps < nodes.count
  pub exactly : (row other steps more : ℕ) (p q : Route) → slice_get routes row ≡ Some p → slice_get routes other ≡ Some q
      → steps ≤ length p.steps → more ≤ length q.steps
      → (node_at nodes row steps ≡ node_at nodes other more) ↔ (prefix_of steps p ≡ prefix_of more q)
  pub earlier : (row steps : ℕ) (path : Route) → slice_get routes row ≡ Some path → steps ≤ length path.steps
      → (node_at nodes row steps < slice_index_or nodes.before row 0) ↔ ((other : ℕ) × (other < row) × HasPrefixInRow routes other steps path)

-- a proof names a prefix of a listed path
pub record NamesPrefix (routes : List Route) (proof : Proof) : Type 0 where
  pub listed : Route
  pub is_listed : IsNumber routes proof.path listed
  pub has_steps : proof.steps ≤ length listed.steps

-- a proof names a prefix of this listed path, and no path before it has this prefix
pub record IsFirstPrefix (routes : List Route) (proof : Proof) (path : Route) : Type 0 where
  pub is_listed : IsNumber routes proof.path path
  pub has_steps : proof.steps ≤ length path.steps
  pub is_first : (other : ℕ) (listed : Route) → IsNumber routes other listed → IsPrefixOf (prefix_of proof.steps path) listed
      → proof.path ≤ other

-- the prefix that the proof names has a node
pub record HasItsNode (nodes : Nodes) (proof : Proof) : Type 0 where
  pub positive : 1 ≤ proof.path
  pub row : proof.path - 1 < length nodes.rows
  pub steps : proof.steps < length (slice_index_or nodes.rows (proof.path - 1) [])
  pub node : slice_index_or (slice_index_or nodes.rows (proof.path - 1) []) proof.steps 0 < nodes.count

-- the node of a proof's prefix
abbrev pub node_of_proof : Nodes → Proof → ℕ
node_of_proof nodes proof = node_at nodes (proof.path - 1) proof.steps

-- a refutation of this kind and direction
pub record IsRefutationAbout (kind : Kind) (direction : Direction) (proof : Proof) : Type 0 where
  pub refutes : proof.spent ≡ false
  pub is_about : IsAbout kind direction proof

-- the proof of this number is a refutation of this kind and direction, and this is the node of its prefix
pub record RefutesPrefixAt (nodes : Nodes) (proofs : List Proof) (kind : Kind) (direction : Direction) (node number : ℕ) : Type 0 where
  pub proof : Proof
  pub is_proof : IsNumber proofs number proof
  pub about : IsRefutationAbout kind direction proof
  pub is_node : node_of_proof nodes proof ≡ node

-- the least of the numbers of which something is so, if there is one
abbrev pub IsLeastNumber : (ℕ → Type 0) → Option ℕ → Type 0
IsLeastNumber Is None = (number : ℕ) → ¬ Is number
IsLeastNumber Is (Some least) = Is least × ((number : ℕ) → Is number → least ≤ number)

-- the lesser of two numbers, or the one that there is
abbrev pub lesser : Option ℕ → Option ℕ → Option ℕ
lesser None other = other
lesser (Some one) None = Some one
lesser (Some one) (Some other) = Some (min one other)

-- each node is marked with the least number of a refutation of this kind and direction of which it is the node
pub record AreLeastMarks (nodes : Nodes) (proofs : List Proof) (kind : Kind) (direction : Direction) (marks : List (Option ℕ)) : Type 0 where
  pub one_each : length marks ≡ nodes.count
  pub least : (node : ℕ) → node < nodes.count
      → IsLeastNumber (RefutesPrefixAt nodes proofs kind direction node) (slice_index_or marks node None)

-- the least number with which some of these nodes are marked
abbrev pub IsLeastMark : List (Option ℕ) → List ℕ → Option ℕ → Type 0
IsLeastMark marks nodes =
    IsLeastNumber (λ number. (node : ℕ) × Contains nodes node × (slice_index_or marks node None ≡ Some number))

-- the number of the refutation of the least number that applies to a target, if one does
abbrev pub IsLeastRefutation : List Route → List Proof → Target → Option ℕ → Type 0
IsLeastRefutation routes proofs target None = NoneApplies routes proofs target
IsLeastRefutation routes proofs target (Some number) = CitesRefutation routes proofs target number

-- for each listed path, the number of the refutation of the least number that applies to it, if one does
abbrev pub AreLeastRefutations : List Route → List Proof → Direction → Kind → List (Option ℕ) → Type 0
AreLeastRefutations routes proofs direction kind least =
    (row : ℕ) (path : Route) → slice_get routes row ≡ Some path
    → IsLeastRefutation routes proofs (target_of path direction kind) (slice_index_or least row None)
