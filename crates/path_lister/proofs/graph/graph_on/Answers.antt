-- The lists that were built one after the other, each of those before it, are those of the circuit's graph.
use Rattle.std.proofs.Common.{◌≡◌, ℕ, List, ◌++◌, map, replicate, take, sym, subst, subst₂}
use Rattle.std.specs.List.{All}
use Rattle.pd_base.specs.declared.ids.LineId.{LineId}
use Rattle.pd_base.specs.declared.ids.PinRef.{PinRef}
use Rattle.netlist.specs.Circuit.{Circuit, gate_line, source_count}
use Rattle.netlist.specs.Pins.{IsPin}
use Rattle.netlist.specs.Waves.{Delays}
use Rattle.delay_annotation.specs.Annotation.{delays_of}
use Rattle.path_laws.specs.Graph.{Graph}
use Rattle.path_laws.specs.CircuitGraph.{node_of}
use Rattle.path_lister.specs.Graphs.{IsGraphUnder}
use Rattle.path_lister.specs.Ranking.{AreNodes, AreNodesWithin, IsRanking}
use Rattle.path_lister.specs.Rows.{AreRows}
use Rattle.path_lister.specs.Stops.{AreStops}
use Rattle.path_lister.proofs.Nodes.{nodes_within}
use Rattle.path_lister.proofs.Assembling.{AreParts, is_graph, is_graph_of}
use Rattle.path_lister.proofs.RowsMore.{read_pins}
use Rattle.path_lister.proofs.graph.graph_on.Goals as goal

-- nodes and pins as the arcs were built of them are the same ones
parts : (c : Circuit) (delays : Delays) (lines : List LineId) (nodes of_arcs : List ℕ) (pins through : List PinRef) (g : Graph)
    → of_arcs ≡ nodes → through ≡ pins → IsRanking c lines → AreNodes c lines nodes → AreRows c lines g.firsts pins
    → g.ends ≡ take (source_count c) of_arcs ++ map (λ pin. node_of of_arcs (gate_line c pin.gate.0)) through
    → g.delays ≡ replicate (source_count c) 0 ++ map delays through → AreStops c of_arcs g.stops
    → AreParts c delays lines nodes pins g
parts c delays lines nodes of_arcs pins through g same_nodes same_pins ranking are_nodes rows ends times stops = record {
  ranking = ranking;
  are_nodes = are_nodes;
  rows = rows;
  arc_ends = subst₂
      (λ (all : List ℕ) (some : List PinRef). g.ends
      ≡ take (source_count c) all ++ map (λ pin. node_of all (gate_line c pin.gate.0)) some) same_nodes same_pins ends;
  arc_delays = subst (λ (some : List PinRef). g.delays ≡ replicate (source_count c) 0 ++ map delays some) same_pins times;
  stopping = subst (λ (all : List ℕ). AreStops c all g.stops) same_nodes stops;
}

pub arcs_of-requires-clause-nodes : goal.arcs_of-requires-clause-nodes
arcs_of-requires-clause-nodes c =
    let net = c.args.net.now in
    subst (AreNodesWithin net) (sym c.as_slice.ensures.value)
    (nodes_within net c.args.lines.now c.requires.lines c.in_ok-nodes.nodes.items c.in_ok-nodes.ensures)

pub arcs_of-requires-clause-pins : goal.arcs_of-requires-clause-pins
arcs_of-requires-clause-pins c =
    let net = c.args.net.now in
    subst (All (IsPin net)) (sym c.as_slice-2.ensures.value)
    (read_pins net c.args.lines.now c.in_ok-rows.rows.pins.items c.in_ok-rows.ensures.on_lines)

pub new-requires : goal.new-requires
new-requires c =
    let net = c.args.net.now in
    let delays = delays_of net c.args.delays.now in
    let lines = c.args.lines.now in
    let nodes = c.in_ok-nodes.nodes.items in
    let pins = c.in_ok-rows.rows.pins.items in
    let arcs = c.in_ok-arcs.arcs in
    let g : Graph = record { firsts = c.in_ok-rows.rows.firsts.items; ends = arcs.ends.items; delays = arcs.times.items; stops = arcs.stops.items } in
    is_graph net c.requires.circuit delays lines nodes pins g
    (parts net delays lines nodes _ pins _ g c.as_slice.ensures.value c.as_slice-2.ensures.value c.requires.lines
    c.in_ok-nodes.ensures c.in_ok-rows.ensures c.in_ok-arcs.ensures.ends c.in_ok-arcs.ensures.times
    c.in_ok-arcs.ensures.stops)

pub returns : goal.returns
returns c =
    let net = c.args.net.now in
    let delays = delays_of net c.args.delays.now in
    let lines = c.args.lines.now in
    let nodes = c.in_ok-nodes.nodes.items in
    let pins = c.in_ok-rows.rows.pins.items in
    let arcs = c.in_ok-arcs.arcs in
    let g : Graph = record { firsts = c.in_ok-rows.rows.firsts.items; ends = arcs.ends.items; delays = arcs.times.items; stops = arcs.stops.items } in
    let are = is_graph_of net c.requires.circuit delays lines nodes pins g
    (parts net delays lines nodes _ pins _ g c.as_slice.ensures.value c.as_slice-2.ensures.value c.requires.lines
    c.in_ok-nodes.ensures c.in_ok-rows.ensures c.in_ok-arcs.ensures.ends c.in_ok-arcs.ensures.times
    c.in_ok-arcs.ensures.stops) in
    subst (IsGraphUnder net delays pins) (sym c.new.ensures) (record { nodes = nodes; graph = are })
