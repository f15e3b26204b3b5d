-- Places are below the number of lines, and each turn writes the node of one line more.
use Rattle.std.proofs.Common.{arith}
use Rattle.path_lister.proofs.Nodes.{node_more}
use Rattle.path_lister.proofs.Ranked.{ranking_length}
use Rattle.path_lister.proofs.ranking.nodes_of.Goals as goal

pub overflow_cast-place : goal.overflow_cast-place
overflow_cast-place c =
    omega (arith, ranking_length c.args.net.now c.args.lines.now c.requires, c.lines.ensures.circuit.few_lines)

pub overflow_add-place : goal.overflow_add-place
overflow_add-place c =
    omega (arith, ranking_length c.args.net.now c.args.lines.now c.requires, c.lines.ensures.circuit.few_lines)

pub loop-place-preserved : goal.loop-place-preserved
loop-place-preserved c =
    node_more c.args.net.now c.args.lines.now c.requires c.loop-place.place c.loop-place.nodes.items c.loop-place-test.true
    c.loop-place.invariant
