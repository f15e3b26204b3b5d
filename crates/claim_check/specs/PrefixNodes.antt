-- How the prefixes of paths get their nodes: each is told by its source, or by the node of the prefix that is a step shorter and its last
-- pin, and the distinct ones are numbered as they come. Its words are spoken inside this crate alone (this project's own).
use Rattle.std.specs.Prelude.{◌≡◌, ℕ, zero, suc, ◌+◌, ◌<◌, ◌≤◌, ◌↔◌, List, [], ◌∷◌, ◌++◌, length, Contains, slice_get, slice_index_or, Some}
use Rattle.pd_base.specs.declared.ids.PinRef.{PinRef}
use Rattle.pd_base.specs.Route.{Route}
use Rattle.claim_check.specs.declared.prefix_tree.Prefix.{Prefix}
use Rattle.claim_check.specs.declared.prefix_tree.Prefix.TheVariants.{Source, Longer}
use Rattle.claim_check.specs.Prefixes.{Nodes, node_at}

-- the prefix of so many steps of a path has this node
abbrev pub IsPrefixNode : List Prefix → Route → ℕ → ℕ → Type 0
IsPrefixNode prefixes path zero node = slice_get prefixes node ≡ Some (Source path.source)
IsPrefixNode prefixes path (suc steps) node =
    (shorter : ℕ) × (pin : PinRef) × IsPrefixNode prefixes path steps shorter × (slice_get path.steps steps ≡ Some pin)
    × (slice_get prefixes node ≡ Some (Longer shorter pin))

-- the nodes of all prefixes of a path
pub record AreNodesOf (prefixes : List Prefix) (path : Route) (nodes : List ℕ) : Type 0 where
  pub one_each : length nodes ≡ length path.steps + 1
  pub each : (steps : ℕ) → steps ≤ length path.steps → IsPrefixNode prefixes path steps (slice_index_or nodes steps 0)

-- no prefix is there twice
abbrev pub AreOnce : List Prefix → Type 0
AreOnce prefixes = (node other : ℕ) (prefix : Prefix) → slice_get prefixes node ≡ Some prefix → slice_get prefixes other ≡ Some prefix
    → node ≡ other

-- a prefix has its node, and was put last if it had none
pub data IsPut (old : List Prefix) (prefix : Prefix) (new : List Prefix) (node : ℕ) : Type 0 where
  there : slice_get old node ≡ Some prefix → new ≡ old → IsPut old prefix new node
  last : ¬ Contains old prefix → new ≡ old ++ prefix ∷ [] → node ≡ length old → IsPut old prefix new node

-- prefixes were put last, none of them twice, and all of these have some of the nodes
pub record ArePut (old new : List Prefix) (nodes : List ℕ) : Type 0 where
  pub more : List Prefix
  pub puts : new ≡ old ++ more
  pub once : AreOnce old → AreOnce new
  pub few : length more ≤ length nodes
  pub all : (node : ℕ) → length old ≤ node → node < length new → Contains nodes node

-- a node is that of a prefix of a path before a row
pub record IsNodeBefore (routes : List Route) (nodes : Nodes) (row node : ℕ) : Type 0 where
  pub other : ℕ
  pub earlier : other < row
  pub path : Route
  pub is_listed : slice_get routes other ≡ Some path
  pub steps : ℕ
  pub within : steps ≤ length path.steps
  pub is_node : node_at nodes other steps ≡ node

-- the nodes of the prefixes of the paths before a row are the numbers below this one
abbrev pub AreNodesBefore : List Route → Nodes → ℕ → ℕ → Type 0
AreNodesBefore routes nodes row count = (node : ℕ) → (node < count) ↔ IsNodeBefore routes nodes row node

-- the nodes of the prefixes of these paths, where these are the distinct prefixes by their nodes
pub record IsTreeOf (routes : List Route) (prefixes : List Prefix) (nodes : Nodes) : Type 0 where
  pub rows_each : length nodes.rows ≡ length routes
  pub before_each : length nodes.before ≡ length routes
  pub count : nodes.count ≡ length prefixes
  pub once : AreOnce prefixes
  pub own : (row : ℕ) (path : Route) → slice_get routes row ≡ Some path → AreNodesOf prefixes path (slice_index_or nodes.rows row [])
  pub before : (row : ℕ) → row < length routes → AreNodesBefore routes nodes row (slice_index_or nodes.before row 0)
  pub all : AreNodesBefore routes nodes (length routes) (length prefixes)
