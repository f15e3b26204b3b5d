-- A graph of nodes and arcs with delays, whose arcs lead to greater numbers (this project's own).
use Rattle.std.specs.Prelude.{◌≡◌, ℕ, ◌+◌, ◌-◌, ◌<◌, ◌≤◌, ◌^◌, Bool, false, List, length, slice_index, slice_index_or}

-- The arcs of a node are those numbered from its first up to the first of the next node. An arc has an end and a delay. At
-- some nodes a walk may stop.
pub record Graph : Type 0 where
  pub firsts : List ℕ
  pub ends : List ℕ
  pub delays : List ℕ
  pub stops : List Bool

-- the graph of these lists
abbrev pub graph_of : List ℕ → List ℕ → List ℕ → List Bool → Graph
graph_of firsts ends delays stops = record { firsts = firsts; ends = ends; delays = delays; stops = stops }

abbrev pub node_count : Graph → ℕ
node_count g = length g.stops

abbrev pub arc_count : Graph → ℕ
arc_count g = length g.ends

-- the first arc of a node
abbrev pub first_arc : Graph → ℕ → ℕ
first_arc g node = slice_index g.firsts node

-- the node to which an arc leads
abbrev pub arc_end : Graph → ℕ → ℕ
arc_end g arc = slice_index g.ends arc

abbrev pub delay_of : Graph → ℕ → ℕ
delay_of g arc = slice_index g.delays arc

-- whether a walk may stop at a node
abbrev pub may_stop : Graph → ℕ → Bool
may_stop g node = slice_index_or g.stops node false

-- the node is one of the graph, and the arc one of its arcs
pub record IsArcOf (g : Graph) (node arc : ℕ) : Type 0 where
  pub in_graph : node < node_count g
  pub from : first_arc g node ≤ arc
  pub below : arc < first_arc g (node + 1)

-- The arcs follow one another node by node; each leads to a node of a greater number; numbers fit 32 bits, and the greatest
-- such number is left free.
pub record IsGraph (g : Graph) : Type 0 where
  pub some_node : 0 < node_count g
  pub few_nodes : node_count g < 2 ^ 32 - 1
  pub few_arcs : arc_count g < 2 ^ 32 - 1
  pub first_each : length g.firsts ≡ node_count g + 1
  pub delay_each : length g.delays ≡ arc_count g
  pub begins : first_arc g 0 ≡ 0
  pub rises : (node : ℕ) → node < node_count g → first_arc g node ≤ first_arc g (node + 1)
  pub finishes : first_arc g (node_count g) ≡ arc_count g
  pub onward : (node arc : ℕ) → IsArcOf g node arc → node < arc_end g arc
  pub inside : (node arc : ℕ) → IsArcOf g node arc → arc_end g arc < node_count g
