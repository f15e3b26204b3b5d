-- Each list is that of the circuit.
use Rattle.std.proofs.Common.{sym, ap, ◌∙◌}
use Rattle.netlist.specs.Greatest.{greatest}
use Rattle.net_builder.proofs.Assembly.{described_gate_pins}
use Rattle.net_builder.proofs.Circuits.{described_IsCircuit}
use Rattle.net_builder.proofs.building.layout_of.Goals as goal

pub returns-clause-stored : goal.returns-clause-stored
returns-clause-stored c =
    let st = c.args.raw.now in
    let lines = c.requires.lines in
    let derived = c.in_ok-derived.ensures in
    record {
      circuit = described_IsCircuit st c.requires.named c.requires.lawful derived.wires.loop_free derived.wires.few_levels;
      sources = c.requires.sources;
      names = lines.names;
      by_name = lines.by_name;
      kinds = derived.kinds;
      pins = c.requires.pins ∙ sym (described_gate_pins st);
      outputs = lines.outputs;
      flops = lines.flops;
      observed = derived.observed;
      fanouts = derived.wires.fanouts;
      levels = derived.wires.levels;
      order = derived.order;
      deepest = c.greatest_of-greatest_level.ensures ∙ ap greatest (c.as_slice.ensures.value ∙ derived.wires.levels);
      longest = lines.longest;
    }
