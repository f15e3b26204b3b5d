-- The parts that a netlist is put together from (this project's own).
use Rattle.std.specs.Prelude.{◌≡◌, ◌≤◌}
use Rattle.netlist.specs.declared.limits.TheConstants.{MOST_LEVELS}
use Rattle.netlist.specs.Circuit.{Circuit, line_names}
use Rattle.netlist.specs.Lawful.{IsLoopFree}
use Rattle.netlist.specs.Levels.{greatest_level, line_levels}
use Rattle.netlist.specs.Names.{longest_name, IsByName}
use Rattle.netlist.specs.Pins.{AreFanouts}
use Rattle.net_builder.specs.declared.named_lines.NamedLines.{NamedLines}
use Rattle.net_builder.specs.declared.wires.Wires.{Wires}

-- the lines of the circuit as far as names tell them
pub record AreNamedLines (c : Circuit) (lines : NamedLines) : Type 0 where
  pub names : lines.names ≡ line_names c
  pub by_name : IsByName (line_names c) lines.by_name.items
  pub longest : lines.longest_name ≡ longest_name c
  pub outputs : lines.outputs.items ≡ c.outputs
  pub flops : lines.flops.items ≡ c.flops

-- the wires of the circuit, which has no loop and no more levels than a netlist may have
pub record AreWires (c : Circuit) (wires : Wires) : Type 0 where
  pub fanouts : AreFanouts c wires.fanouts
  pub levels : wires.levels.items ≡ line_levels c
  pub loop_free : IsLoopFree c
  pub few_levels : greatest_level c ≤ MOST_LEVELS
