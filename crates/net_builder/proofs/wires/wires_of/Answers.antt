-- The pins are those of the circuit.
use Rattle.std.proofs.Common.{◌≡◌, ◌+◌, arith}
use Rattle.netlist.specs.Circuit.{line_count}
use Rattle.netlist.specs.Description.{described}
use Rattle.net_builder.proofs.Assembly.{described_fits, described_wired, wire_lines}
use Rattle.net_builder.proofs.Deep.{few_lines}
use Rattle.net_builder.proofs.wires.wires_of.Goals as goal

pub overflow_cast-len : goal.overflow_cast-len
overflow_cast-len c =
    let st = c.args.raw.now in
    let many = wire_lines st c.args.pins.now c.requires.pins c.args.sources c.requires.sources in
    omega (arith, c.len.ensures, many, few_lines st c.requires.named.limits)

pub overflow_add-sources : goal.overflow_add-sources
overflow_add-sources c =
    let st = c.args.raw.now in
    let many = wire_lines st c.args.pins.now c.requires.pins c.args.sources c.requires.sources in
    omega (arith, c.len.ensures, many, few_lines st c.requires.named.limits)

pub fanouts_of-requires : goal.fanouts_of-requires
fanouts_of-requires c =
    let st = c.args.raw.now in
    let many : c.args.sources + c.len.result ≡ line_count (described st) =
    omega (arith, c.len.ensures, wire_lines st c.args.pins.now c.requires.pins c.args.sources c.requires.sources) in
    described_fits st c.args.pins.now c.requires.pins _ many c.requires.named

pub returns-clause-wires : goal.returns-clause-wires
returns-clause-wires c =
    let st = c.args.raw.now in
    let many : c.args.sources + c.len.result ≡ line_count (described st) =
    omega (arith, c.len.ensures, wire_lines st c.args.pins.now c.requires.pins c.args.sources c.requires.sources) in
    record {
      fanouts = c.in_ok-fanouts.ensures.fanouts (described st) (described_wired st c.args.pins.now c.requires.pins _ many);
      levels = c.in_ok-levels.ensures.levels;
      loop_free = c.in_ok-levels.ensures.loop_free;
      few_levels = c.in_ok-check_depth.ensures.few_levels;
    }
