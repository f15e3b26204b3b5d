-- What a netlist keeps, and the circuit that this stands for (this project's own).
use Rattle.std.specs.Prelude.{◌≡◌, ℕ, List, [], ◌∷◌, map, take, drop}
use Rattle.netlist.specs.declared.kind.GateKind.{GateKind}
use Rattle.pd_base.specs.declared.ids.LineId.{LineId}
use Rattle.netlist.specs.declared.netlist.Layout.{Layout}
use Rattle.netlist.specs.Circuit.{Circuit, Gate, source_count, line_names, observed_lines}
use Rattle.netlist.specs.Names.{longest_name, IsByName}
use Rattle.netlist.specs.Pins.{AreFanouts}
use Rattle.netlist.specs.Levels.{line_levels, greatest_level, IsRankOrder}
use Rattle.netlist.specs.Lawful.{IsCircuit}

-- gates out of their names, their kinds and their pins
abbrev pub gates_of : List (List ℕ) → List GateKind → List (List LineId) → List Gate
gates_of [] kinds pins = []
gates_of (name ∷ names) [] pins = []
gates_of (name ∷ names) (kind ∷ kinds) [] = []
gates_of (name ∷ names) (kind ∷ kinds) (own ∷ pins) =
    record { name = name; kind = kind; pins = own } ∷ gates_of names kinds pins

-- the circuit that a netlist's lists stand for
abbrev pub circuit_of : Layout → Circuit
circuit_of n = record {
  sources = take n.sources n.names;
  gates = gates_of (drop n.sources n.names) n.kinds.items n.pins;
  outputs = n.outputs.items;
  flops = n.flops.items;
}

-- what the netlist of a circuit keeps
pub record IsStored (c : Circuit) (n : Layout) : Type 0 where
  pub circuit : IsCircuit c
  pub sources : n.sources ≡ source_count c
  pub names : n.names ≡ line_names c
  pub by_name : IsByName (line_names c) n.by_name.items
  pub kinds : n.kinds.items ≡ map (λ gate. gate.kind) c.gates
  pub pins : n.pins ≡ map (λ gate. gate.pins) c.gates
  pub outputs : n.outputs.items ≡ c.outputs
  pub flops : n.flops.items ≡ c.flops
  pub observed : n.observed.items ≡ observed_lines c
  pub fanouts : AreFanouts c n.fanouts
  pub levels : n.levels.items ≡ line_levels c
  pub order : IsRankOrder c n.order.items
  pub deepest : n.greatest_level ≡ greatest_level c
  pub longest : n.longest_name ≡ longest_name c
