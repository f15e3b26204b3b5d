-- The lines of a circuit by level, and the nodes that they have in that order (this project's own).
use Rattle.std.specs.Prelude.{◌≡◌, ◌≢◌, ℕ, ◌+◌, ◌<◌, ◌≤◌, List, length, slice_index_or, AllPairs, Contains}
use Rattle.pd_base.specs.declared.ids.LineId.{LineId}
use Rattle.netlist.specs.Circuit.{Circuit, HasLines, line_count}
use Rattle.netlist.specs.Levels.{level}
use Rattle.path_laws.specs.CircuitGraph.{node_of}

-- the second line is another one, and on no lower level
pub record IsLineBefore (c : Circuit) (a b : LineId) : Type 0 where
  pub differ : a ≢ b
  pub no_lower : level c a.0 ≤ level c b.0

-- all lines of the circuit, each once, by level
pub record IsRanking (c : Circuit) (lines : List LineId) : Type 0 where
  pub rising : AllPairs (IsLineBefore c) lines
  pub in_circuit : HasLines c lines
  pub whole : (line : ℕ) → line < line_count c → Contains lines (record { 0 = line })

-- the number of the line at this place
abbrev pub line_in : List LineId → ℕ → ℕ
line_in lines place = (slice_index_or lines place (record { 0 = 0 })).0

-- the nodes of these lines, by line number: the first has node 1, and so on
pub record AreNodes (c : Circuit) (lines : List LineId) (nodes : List ℕ) : Type 0 where
  pub node_each : length nodes ≡ line_count c
  pub in_order : (place : ℕ) → place < length lines → node_of nodes (line_in lines place) ≡ place + 1

-- each line has a node of its own, from 1 up to the number of lines
pub record AreNodesWithin (c : Circuit) (nodes : List ℕ) : Type 0 where
  pub node_each : length nodes ≡ line_count c
  pub behind_root : (line : ℕ) → line < line_count c → 0 < node_of nodes line
  pub within : (line : ℕ) → line < line_count c → node_of nodes line ≤ line_count c
  pub own : (a b : ℕ) → a < line_count c → b < line_count c → node_of nodes a ≡ node_of nodes b → a ≡ b
