-- Each stage adds its gates.
use Rattle.std.proofs.Common.{List, ◌++◌, map, length, length-append, sym, ap, ◌∙◌, ◌+◌, arith}
use Rattle.netlist.specs.Statements.{Numbered}
use Rattle.ladder.specs.Ladder.{ladder_gates, stage_gates}
use Rattle.ladder.specs.Statements.{gate_stated}
use Rattle.ladder.proofs.More.{gates_more, gates_stated_total}
use Rattle.ladder.proofs.statements.push_gates.Goals as goal

pub push_stage_gates-requires-clause-room : goal.push_stage_gates-requires-clause-room
push_stage_gates-requires-clause-room c =
    let long = length-append c.args.raw.now (map gate_stated (ladder_gates c.loop-before.before)) in
    omega (arith, gates_stated_total c.loop-before.before, long, ap length c.loop-before.invariant)

pub loop-before-preserved : goal.loop-before-preserved
loop-before-preserved c =
    c.in_ok-push_stage_gates.ensures
    ∙ ap (λ (list : List Numbered). list ++ map gate_stated (stage_gates (c.loop-before.before + 1))) c.loop-before.invariant
    ∙ sym (gates_more c.args.raw.now c.loop-before.before)
