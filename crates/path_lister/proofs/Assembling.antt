-- The lists that are built are those of the circuit's graph, and make a graph.
use Rattle.std.proofs.Common.{◌≡◌, ⊎_elim, ℕ, ◌+◌, ◌<◌, ◌≤◌, List, ◌++◌, length, map, replicate, take, sym, ap, subst, ◌∙◌, arith, length-append}
use Rattle.std.proofs.lemmas.Bool.{cases_lt}
use Rattle.std.proofs.lemmas.List.{length-map, length-replicate, length-take-le}
use Rattle.pd_base.specs.declared.ids.LineId.{LineId}
use Rattle.pd_base.specs.declared.ids.PinRef.{PinRef}
use Rattle.netlist.specs.Circuit.{Circuit, gate_line, line_count, source_count}
use Rattle.netlist.specs.Lawful.{IsCircuit}
use Rattle.netlist.specs.Pins.{pin_total}
use Rattle.netlist.specs.Waves.{Delays}
use Rattle.path_laws.specs.Graph.{Graph, IsArcOf, IsGraph, arc_count, arc_end, first_arc, node_count}
use Rattle.path_laws.specs.CircuitGraph.{IsGraphOf, IsNodeOf, node_of, arc_pin}
use Rattle.path_laws.proofs.ArcPins.{goes_through, source_end}
use Rattle.path_lister.specs.Ranking.{AreNodes, AreNodesWithin, IsRanking}
use Rattle.path_lister.specs.Rows.{AreRows}
use Rattle.path_lister.specs.Stops.{AreStops}
use Rattle.path_lister.proofs.Ranked.{ranking_length}
use Rattle.path_lister.proofs.Nodes.{line_of_node, node_by_place, nodes_rise, nodes_within}
use Rattle.path_lister.proofs.RowsMore.{rows_few, same_arcs}

-- the lists of a circuit's graph
pub record AreParts (c : Circuit) (delays : Delays) (lines : List LineId) (nodes : List ℕ) (pins : List PinRef) (g : Graph)
    : Type 0 where
  pub ranking : IsRanking c lines
  pub are_nodes : AreNodes c lines nodes
  pub rows : AreRows c lines g.firsts pins
  pub arc_ends : g.ends ≡ take (source_count c) nodes ++ map (λ pin. node_of nodes (gate_line c pin.gate.0)) pins
  pub arc_delays : g.delays ≡ replicate (source_count c) 0 ++ map delays pins
  pub stopping : AreStops c nodes g.stops

module _ (c : Circuit) (circuit : IsCircuit c) (delays : Delays) (lines : List LineId) (nodes : List ℕ) (pins : List PinRef)
    (g : Graph) (are : AreParts c delays lines nodes pins g) where
  -- each line has its node
  line_node : (line : ℕ) → line < line_count c → IsNodeOf c pins g line (node_of nodes line)
  line_node line within =
      let found = node_by_place c lines are.ranking nodes are.are_nodes line within in
      let place = found.0 in
      record {
        in_graph = omega (arith, found.1, found.3, ranking_length c lines are.ranking, are.stopping.node_each);
        arcs = same_arcs c pins found.2 (ap (first_arc g) (sym found.3))
            (ap (first_arc g) (omega (arith, found.3))) (are.rows.rows place found.1);
        stops = are.stopping.observed line within;
      }

  -- the lists are those of the circuit's graph
  pub is_graph_of : IsGraphOf c delays nodes pins g
  is_graph_of = record {
    begins = are.rows.begins;
    sources = are.rows.sources;
    goes_on = are.stopping.goes_on;
    node_each = are.are_nodes.node_each;
    arc_ends = are.arc_ends;
    arc_delays = are.arc_delays;
    lines = line_node;
    all_nodes = λ node above within. line_of_node c lines are.ranking nodes are.are_nodes node above
        (omega (arith, are.stopping.node_each));
  }

  -- an arc for each source and each pin
  arcs_length : arc_count g ≡ source_count c + length pins
  arcs_length =
      let gate_node = λ (pin : PinRef). node_of nodes (gate_line c pin.gate.0) in
      ap (λ ends. length ends) are.arc_ends ∙ length-append (take (source_count c) nodes) (map gate_node pins)
      ∙ omega (
        arith,
        length-take-le (source_count c) nodes (omega (arith, are.are_nodes.node_each)),
        length-map pins gate_node,
      )

  -- with a delay
  delays_length : length g.delays ≡ source_count c + length pins
  delays_length =
      ap (λ all. length all) are.arc_delays ∙ length-append (replicate (source_count c) 0) (map delays pins)
      ∙ omega (arith, length-replicate {A = ℕ} (source_count c) 0, length-map pins delays)

  -- the pins are no more than those of the circuit
  pins_few : length pins ≤ pin_total c
  pins_few = rows_few c lines g.firsts pins are.rows

  -- a node is the root, or that of a line
  at_nodes : (P : ℕ → Type 0) → P 0 → ((line : ℕ) → line < line_count c → P (node_of nodes line)) → (node : ℕ)
      → node < node_count g → P node
  at_nodes P root of_line node within =
      ⊎_elim
      (λ above. let found = is_graph_of.all_nodes node above within in subst P found.2 (of_line found.0 found.1))
      (λ none. let at_root : 0 ≡ node = omega arith in subst P at_root root)
      (cases_lt 0 node)

  -- the first arcs rise
  first_arcs_rise : (node : ℕ) → node < node_count g → first_arc g node ≤ first_arc g (node + 1)
  first_arcs_rise =
      at_nodes (λ node. first_arc g node ≤ first_arc g (node + 1))
      (omega (arith, are.rows.begins)) (λ line within. (line_node line within).arcs.rises)

  -- each arc leads to a greater node
  onward : (node arc : ℕ) → IsArcOf g node arc → (node < arc_end g arc) × (arc_end g arc < node_count g)
  onward node arc of =
      at_nodes (λ node. IsArcOf g node arc → (node < arc_end g arc) × (arc_end g arc < node_count g)) at_root at_line node
      of.in_graph of
    where
      inside : AreNodesWithin c nodes
      inside = nodes_within c lines are.ranking nodes are.are_nodes

      at_root : IsArcOf g 0 arc → (0 < arc_end g arc) × (arc_end g arc < node_count g)
      at_root first =
          let source : arc < source_count c = omega (arith, first.below, are.rows.sources) in
          let within : arc < line_count c = omega (arith, source) in
          let ends = source_end c delays nodes pins g is_graph_of arc source in (
            omega (arith, ends, inside.behind_root arc within),
            omega (arith, ends, inside.within arc within, are.stopping.node_each),
          )

      at_line : (line : ℕ) → line < line_count c → IsArcOf g (node_of nodes line) arc
          → (node_of nodes line < arc_end g arc) × (arc_end g arc < node_count g)
      at_line line within own =
          let through = goes_through c delays nodes pins g is_graph_of line arc within own in
          let gate_within : gate_line c (arc_pin c pins arc).gate.0 < line_count c = omega (arith, through.on.in_circuit) in (
            omega (
              arith,
              through.leads,
              nodes_rise c lines are.ranking nodes are.are_nodes circuit (arc_pin c pins arc) line within through.on,
            ),
            omega (
              arith,
              through.leads,
              inside.within (gate_line c (arc_pin c pins arc).gate.0) gate_within,
              are.stopping.node_each,
            ),
          )

  -- so they make a graph
  pub is_graph : IsGraph g
  is_graph = record {
    some_node = omega (arith, are.stopping.node_each);
    few_nodes = omega (arith, are.stopping.node_each, circuit.few_lines);
    few_arcs = omega (arith, arcs_length, pins_few, circuit.few_pins, circuit.few_lines);
    first_each = omega (arith, are.rows.one_each, ranking_length c lines are.ranking, are.stopping.node_each);
    delay_each = omega (arith, delays_length, arcs_length);
    begins = are.rows.begins;
    rises = first_arcs_rise;
    finishes = ap (first_arc g) (omega (arith, ranking_length c lines are.ranking, are.stopping.node_each))
        ∙ are.rows.finishes ∙ sym arcs_length;
    onward = λ node arc of. (onward node arc of).0;
    inside = λ node arc of. (onward node arc of).1;
  }
