-- Where a walk may stop (this project's own).
use Rattle.std.specs.Prelude.{◌≡◌, ◌↔◌, ℕ, ◌+◌, ◌<◌, Bool, false, List, length, slice_index_or, Contains, IsTrue}
use Rattle.netlist.specs.Circuit.{Circuit, line_count, observed_lines}
use Rattle.path_laws.specs.CircuitGraph.{node_of}

-- by node whether a walk may stop there: not at node 0, and at the node of a line exactly where the line is observed
pub record AreStops (c : Circuit) (nodes : List ℕ) (stops : List Bool) : Type 0 where
  pub node_each : length stops ≡ line_count c + 1
  pub goes_on : slice_index_or stops 0 false ≡ false
  pub observed : (line : ℕ) → line < line_count c
      → IsTrue (slice_index_or stops (node_of nodes line) false) ↔ Contains (observed_lines c) (record { 0 = line })
