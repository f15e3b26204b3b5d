-- The graph whose walks from node 0 are the paths of a circuit: node 0 leads to each source, and the node of a line leads on
-- through each pin that reads the line (this project's own).
use Rattle.std.specs.Prelude.{◌≡◌, ◌↔◌, ⊤, ℕ, ◌+◌, ◌-◌, ◌<◌, ◌≤◌, false, List, [], ◌∷◌, ◌++◌, length, map, replicate, slice_index, slice_index_or, slice_range, take, All, Contains, IsTrue}
use Rattle.pd_base.specs.declared.ids.PinRef.{PinRef}
use Rattle.pd_base.specs.Route.{Route}
use Rattle.netlist.specs.Circuit.{Circuit, gate_line, line_count, observed_lines, source_count}
use Rattle.netlist.specs.Pins.{IsFanout}
use Rattle.netlist.specs.Waves.{Delays}
use Rattle.path_laws.specs.Graph.{Graph, first_arc, may_stop, node_count}

-- the node of a line
abbrev pub node_of : List ℕ → ℕ → ℕ
node_of nodes line = slice_index nodes line

-- what is read past the last pin
abbrev pub no_pin : PinRef
no_pin = record { gate = record { 0 = 0 }; pin = 0 }

-- the pin that an arc goes through; the arcs that lead to the sources stand in front of those that go through pins
abbrev pub arc_pin : Circuit → List PinRef → ℕ → PinRef
arc_pin c pins arc = slice_index_or pins (arc - source_count c) no_pin

-- the arc goes through one of these pins
pub record GoesThroughPin (c : Circuit) (pins : List PinRef) (arc : ℕ) : Type 0 where
  pub behind_sources : source_count c ≤ arc
  pub within : arc < source_count c + length pins

-- so do all arcs of the walk behind its first one
abbrev pub GoesOnThroughPins : Circuit → List PinRef → List ℕ → Type 0
GoesOnThroughPins c pins [] = ⊤
GoesOnThroughPins c pins (arc ∷ walk) = All (GoesThroughPin c pins) walk

-- the arcs from one number up to another go through the pins that read this line, by gate and then by pin
pub record AreArcsOf (c : Circuit) (pins : List PinRef) (line from to : ℕ) : Type 0 where
  pub behind_sources : source_count c ≤ from
  pub rises : from ≤ to
  pub within : to ≤ source_count c + length pins
  pub fanout : IsFanout c line (slice_range pins (from - source_count c) (to - source_count c))

-- the node leads on through the pins that read this line, and a walk may stop there where the line is observed
pub record IsNodeOf (c : Circuit) (pins : List PinRef) (g : Graph) (line node : ℕ) : Type 0 where
  pub in_graph : node < node_count g
  pub arcs : AreArcsOf c pins line (first_arc g node) (first_arc g (node + 1))
  pub stops : IsTrue (may_stop g node) ↔ Contains (observed_lines c) (record { 0 = line })

-- The graph of a circuit under a delay assignment, with the nodes of its lines by line number, which are all nodes but node 0.
-- Arc s leads from node 0 to the node of source s, without delay; each further arc goes through a pin, with the delay of the
-- pin, to the node of the line of the pin's gate.
pub record IsGraphOf (c : Circuit) (delays : Delays) (nodes : List ℕ) (pins : List PinRef) (g : Graph) : Type 0 where
  pub begins : first_arc g 0 ≡ 0
  pub sources : first_arc g 1 ≡ source_count c
  pub goes_on : may_stop g 0 ≡ false
  pub node_each : length nodes ≡ line_count c
  pub arc_ends : g.ends ≡ take (source_count c) nodes ++ map (λ pin. node_of nodes (gate_line c pin.gate.0)) pins
  pub arc_delays : g.delays ≡ replicate (source_count c) 0 ++ map delays pins
  pub lines : (line : ℕ) → line < line_count c → IsNodeOf c pins g line (node_of nodes line)
  pub all_nodes : (node : ℕ) → 0 < node → node < node_count g
      → (line : ℕ) × (line < line_count c) × (node_of nodes line ≡ node)

-- the path of a walk: its first arc leads to the source, and the others go through the pins of its steps
abbrev pub route_of : Circuit → List PinRef → List ℕ → Route
route_of c pins [] = record { source = record { 0 = 0 }; steps = [] }
route_of c pins (arc ∷ walk) = record { source = record { 0 = arc }; steps = map (arc_pin c pins) walk }
