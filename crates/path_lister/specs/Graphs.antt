-- A graph of a circuit, whatever nodes the lines have (this project's own).
use Rattle.std.specs.Prelude.{ℕ, List}
use Rattle.pd_base.specs.declared.ids.PinRef.{PinRef}
use Rattle.netlist.specs.Circuit.{Circuit}
use Rattle.netlist.specs.Waves.{Delays}
use Rattle.path_laws.specs.Graph.{Graph}
use Rattle.path_laws.specs.CircuitGraph.{IsGraphOf}

-- the graph is that of the circuit under these delays, with some nodes of the lines
pub record IsGraphUnder (c : Circuit) (delays : Delays) (pins : List PinRef) (g : Graph) : Type 0 where
  pub nodes : List ℕ
  pub graph : IsGraphOf c delays nodes pins g
