-- The lines that are no gates' are sources.
use Rattle.std.proofs.Common.{length, ap, arith}
use Rattle.netlist.specs.Description.{described}
use Rattle.netlist.proofs.CircuitLines.{line_names-length}
use Rattle.net_builder.proofs.Assembly.{gates_counted}
use Rattle.net_builder.proofs.Deep.{few_lines}
use Rattle.net_builder.proofs.named_parts.named_parts.Goals as goal

pub overflow_sub-sources : goal.overflow_sub-sources
overflow_sub-sources c =
    let st = c.args.raw.now in
    omega (
      arith,
      c.len.ensures,
      c.len-2.ensures,
      ap length c.in_ok-lines.ensures.names,
      line_names-length (described st),
      gates_counted st c.in_ok-pins.field-0.pins c.in_ok-pins.ensures.pins,
    )

pub overflow_cast-sources : goal.overflow_cast-sources
overflow_cast-sources c =
    let st = c.args.raw.now in
    omega (
      arith,
      c.len.ensures,
      ap length c.in_ok-lines.ensures.names,
      line_names-length (described st),
      few_lines st c.requires.limits,
    )

pub returns-clause-sources : goal.returns-clause-sources
returns-clause-sources c =
    let st = c.args.raw.now in
    omega (
      arith,
      c.len.ensures,
      c.len-2.ensures,
      ap length c.in_ok-lines.ensures.names,
      line_names-length (described st),
      gates_counted st c.in_ok-pins.field-0.pins c.in_ok-pins.ensures.pins,
    )
