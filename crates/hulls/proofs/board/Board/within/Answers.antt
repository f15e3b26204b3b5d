-- There are few enough links, since no source has two.
use Rattle.std.proofs.Common.{arith}
use Rattle.state_laws.proofs.LinkCounts.{few_gates_and_links}
use Rattle.hulls.proofs.board.Board.within.Goals as goal

pub with_links-requires : goal.with_links-requires
with_links-requires g c =
    omega (arith, c.requires.gates, few_gates_and_links c.args.net.now c.lines-lines.ensures.circuit c.args.links.now c.requires.of)

pub new-requires-clause-few : goal.new-requires-clause-few
new-requires-clause-few g c =
    omega (arith, few_gates_and_links c.args.net.now c.lines-lines.ensures.circuit c.args.links.now c.requires.of)
