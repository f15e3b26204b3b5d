use Rattle.std.proofs.Common.{◌≡◌, ◌++◌, map, take}
use Rattle.netlist.specs.Circuit.{gate_line, source_count}
use Rattle.path_laws.specs.CircuitGraph.{node_of}
use Rattle.path_lister.proofs.arcs.arc_ends.Given as goal

-- the arcs of the sources, and those of the pins before this one, have their ends
abbrev pub invariant-loop-pin : goal.invariant-loop-pin
invariant-loop-pin l = l.ends.items
    ≡ take (source_count l.net) l.nodes ++ map (λ pin. node_of l.nodes (gate_line l.net pin.gate.0)) (take l.pin-index l.pins)
