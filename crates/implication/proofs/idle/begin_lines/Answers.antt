-- No line has begun at first, one more has after each turn, and all have in the end.
use Rattle.std.proofs.Common.{List, get_or, refl, subst, arith, take_all}
use Rattle.pd_base.specs.declared.ids.LineId.{LineId}
use Rattle.state_sets.specs.declared.state.StateSet.{StateSet}
use Rattle.implication.specs.Begun.{HasBegunWith, AreBegun}
use Rattle.implication.proofs.Idling.{begun_none, begun_more}
use Rattle.implication.proofs.idle.begin_lines.Goals as goal

pub loop-line-init : goal.loop-line-init
loop-line-init g c =
    begun_none g.A.Algebra.algebra c.args.net.now c.args.launched c.args.lines.now c.args.board.now c.requires.within

pub loop-line-preserved : goal.loop-line-preserved
loop-line-preserved g c =
    let index = c.loop-line.line-index in
    let line = get_or c.args.lines.now index (record { 0 = 0 }) in
    begun_more g.A.Algebra.algebra c.args.net.now c.args.launched c.sources.ensures.circuit c.args.lines.now c.requires.in_circuit
    c.requires.by_level index c.loop-line-test.true c.args.board.now c.loop-line.board c.write.new.self c.requires.one_each c.loop-line.invariant
    line refl c.set_to_begin-set.result c.set_to_begin-set.ensures.within
    (subst (λ (labels : List StateSet). HasBegunWith g.A.Algebra.algebra c.args.net.now c.args.launched labels line.0 c.set_to_begin-set.result)
    c.labels.ensures.labels c.set_to_begin-set.ensures.begun)
    c.write.ensures

pub write-requires-clause-line : goal.write-requires-clause-line
write-requires-clause-line g c =
    let within = c.requires.in_circuit c.loop-line.line-index (record { 0 = 0 }) c.loop-line-test.true in
    omega (arith, within, c.loop-line.invariant.one_each, c.requires.one_each)

pub returns : goal.returns
returns g c =
    subst (λ (ls : List LineId). AreBegun g.A.Algebra.algebra c.args.net.now c.args.launched ls c.args.board.now c.loop-line.board)
    (take_all c.loop-line.line-index c.args.lines.now c.loop-line-test.false)
    c.loop-line.invariant
