-- The pins are those of the circuit, so its levels are found, or its first looped gate.
use Rattle.std.proofs.Common.{subst, arith}
use Rattle.net_builder.specs.Faults.{MayFault}
use Rattle.netlist.specs.Description.{described}
use Rattle.net_builder.proofs.Assembly.{described_fits, described_wired, wire_lines}
use Rattle.net_builder.proofs.Deep.{gates_mentioned, refuses_loop}
use Rattle.net_builder.proofs.wires.loop_free_levels.Goals as goal

pub levels_of-requires-clause-fits : goal.levels_of-requires-clause-fits
levels_of-requires-clause-fits c =
    let st = c.args.raw.now in
    let many = wire_lines st c.args.pins.now c.requires.pins c.args.sources c.requires.sources in
    described_fits st c.args.pins.now c.requires.pins _ many c.requires.named

pub mention_of_gate-requires : goal.mention_of_gate-requires
mention_of_gate-requires c =
    let st = c.args.raw.now in
    let many = wire_lines st c.args.pins.now c.requires.pins c.args.sources c.requires.sources in
    let first = subst (MayFault (described st)) c.in-Err-Loop.field-0-is
    (c.in-Err-Loop.ensures.refused (described st) (described_wired st c.args.pins.now c.requires.pins _ many)) in
    omega (arith, first.in_circuit, gates_mentioned st)

pub returns-in-Ok-clause-levels : goal.returns-in-Ok-clause-levels
returns-in-Ok-clause-levels c =
    let st = c.args.raw.now in
    let many = wire_lines st c.args.pins.now c.requires.pins c.args.sources c.requires.sources in
    c.in-Ok.ensures.levels (described st) (described_wired st c.args.pins.now c.requires.pins _ many)

pub returns-in-Ok-clause-loop_free : goal.returns-in-Ok-clause-loop_free
returns-in-Ok-clause-loop_free c =
    let st = c.args.raw.now in
    let many = wire_lines st c.args.pins.now c.requires.pins c.args.sources c.requires.sources in
    c.in-Ok.ensures.loop_free (described st) (described_wired st c.args.pins.now c.requires.pins _ many)

pub returns-in_ok-line-in-Err-Loop-clause-refused : goal.returns-in_ok-line-in-Err-Loop-clause-refused
returns-in_ok-line-in-Err-Loop-clause-refused c =
    let st = c.args.raw.now in
    let many = wire_lines st c.args.pins.now c.requires.pins c.args.sources c.requires.sources in
    let first = subst (MayFault (described st)) c.in-Err-Loop.field-0-is
    (c.in-Err-Loop.ensures.refused (described st) (described_wired st c.args.pins.now c.requires.pins _ many)) in
    refuses_loop st c.requires.named c.in-Err-Loop.gate.0 first _ c.in_ok-line-in-Err-Loop.ensures
