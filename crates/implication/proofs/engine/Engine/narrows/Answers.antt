-- There is a flag for each gate, and no more gates are counted than were passed.
use Rattle.std.proofs.Common.{◌≤◌, ⊎_elim, length, ap, arith}
use Rattle.netlist.specs.Circuit.{gate_count, line_count, source_count}
use Rattle.implication.proofs.engine.Engine.narrows.Goals as goal

pub is_inside-requires : goal.is_inside-requires
is_inside-requires g c =
    let e = c.self.inside in let net = g.S.Setting.circuit e.setting in
    let flags : gate_count net ≤ length e.parts.board.inside =
    ⊎_elim (λ whole. whole.gates) (λ near. near.1.gates) c.self.invariant.0.cone in
    let lines = c.lines.ensures.count in let sources = c.sources.ensures.count in
    let same_lines = ap line_count c.netlist-net.ensures in let same_sources = ap source_count c.netlist-net.ensures in
    omega (arith, flags, lines, sources, same_lines, same_sources, c.loop-gate-test.true)
