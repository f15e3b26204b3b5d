-- The first line over the limit is that of a gate, and the gate is told.
use Rattle.std.proofs.Common.{◌-◌, arith}
use Rattle.net_builder.proofs.Deep.{few_lines, is_gate, levels_counted, no_source, refuses_depth}
use Rattle.net_builder.proofs.wires.check_depth.Goals as goal

pub overflow_cast-deep : goal.overflow_cast-deep
overflow_cast-deep c =
    let st = c.args.raw.now in
    let over = c.in-Some.ensures in
    omega (arith, over.within, levels_counted st c.args.levels.now c.requires.levels, few_lines st c.requires.named.limits)

pub overflow_sub-deep : goal.overflow_sub-deep
overflow_sub-deep c =
    omega (arith, no_source c.args.raw.now c.args.levels.now c.requires.levels c.in-Some.deep c.in-Some.ensures, c.requires.sources)

pub mention_of_gate-requires : goal.mention_of_gate-requires
mention_of_gate-requires c =
    let st = c.args.raw.now in
    let gate = no_source st c.args.levels.now c.requires.levels c.in-Some.deep c.in-Some.ensures in
    is_gate st c.args.levels.now c.requires.levels c.in-Some.deep c.in-Some.ensures (c.in-Some.deep - c.args.sources)
    (omega (arith, gate, c.requires.sources))

pub returns-clause-refused : goal.returns-clause-refused
returns-clause-refused c =
    let st = c.args.raw.now in
    let gate = no_source st c.args.levels.now c.requires.levels c.in-Some.deep c.in-Some.ensures in
    refuses_depth st c.args.levels.now c.requires.levels c.in-Some.deep c.in-Some.ensures c.requires.named c.requires.loop_free
    (c.in-Some.deep - c.args.sources) (omega (arith, gate, c.requires.sources)) _ c.in_ok-line.ensures
