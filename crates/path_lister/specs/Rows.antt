-- The arcs of all nodes in one row (this project's own).
use Rattle.std.specs.Prelude.{◌≡◌, ◌≢◌, ℕ, ◌+◌, ◌<◌, List, length, slice_index, All, AllPairs, Contains}
use Rattle.pd_base.specs.declared.ids.LineId.{LineId}
use Rattle.pd_base.specs.declared.ids.PinRef.{PinRef}
use Rattle.netlist.specs.Circuit.{Circuit, source_count}
use Rattle.netlist.specs.Pins.{IsPinOn}
use Rattle.path_laws.specs.CircuitGraph.{AreArcsOf}
use Rattle.path_lister.specs.Ranking.{line_in}

-- the pin reads one of these lines
pub record ReadsOneOf (c : Circuit) (lines : List LineId) (pin : PinRef) : Type 0 where
  pub line : LineId
  pub among : Contains lines line
  pub on : IsPinOn c pin line.0

-- The first arcs of node 0 and of the nodes of these lines, and the number of all arcs behind them; and the pins of the arcs
-- behind those of the sources, each once.
pub record AreRows (c : Circuit) (lines : List LineId) (firsts : List ℕ) (pins : List PinRef) : Type 0 where
  pub one_each : length firsts ≡ length lines + 2
  pub begins : slice_index firsts 0 ≡ 0
  pub sources : slice_index firsts 1 ≡ source_count c
  pub finishes : slice_index firsts (length lines + 1) ≡ source_count c + length pins
  pub rows : (place : ℕ) → place < length lines
      → AreArcsOf c pins (line_in lines place) (slice_index firsts (place + 1)) (slice_index firsts (place + 2))
  pub once : AllPairs (λ a b. a ≢ b) pins
  pub on_lines : All (ReadsOneOf c lines) pins
