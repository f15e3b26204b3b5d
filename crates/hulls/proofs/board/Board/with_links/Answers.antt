-- There are few enough links, since no source has two, and they are of lines of the netlist.
use Rattle.std.proofs.Common.{◌≡◌, length, sym, ap, subst, arith}
use Rattle.netlist.specs.Circuit.{gate_count}
use Rattle.state_laws.proofs.LinkCounts.{few_gates_and_links}
use Rattle.hulls.specs.Boards.{OnBoard}
use Rattle.hulls.proofs.board.Board.with_links.Goals as goal

pub with_links-requires : goal.with_links-requires
with_links-requires g c =
    let P : OnBoard → Type 0 = λ b. length b.inside ≡ gate_count c.args.net.now in
    let gates = subst P (sym c.self.view_is) c.requires.gates in
    omega (
      arith,
      gates,
      ap length c.into_inside.ensures,
      few_gates_and_links c.args.net.now c.lines-lines.ensures.circuit c.args.links.now c.requires.of,
    )

pub new-requires-2-clause-few : goal.new-requires-2-clause-few
new-requires-2-clause-few g c =
    omega (arith, few_gates_and_links c.args.net.now c.lines-lines.ensures.circuit c.args.links.now c.requires.of)

pub new-requires-2-clause-sources : goal.new-requires-2-clause-sources
new-requires-2-clause-sources g c = λ k d inside. omega (arith, c.requires.of.sources k d inside, c.lines-lines.ensures.count)

pub new-requires-2-clause-lines : goal.new-requires-2-clause-lines
new-requires-2-clause-lines g c = λ k d inside. omega (arith, c.requires.of.lines k d inside, c.lines-lines.ensures.count)
