-- No line has begun at first, one more has after each turn, and all have in the end.
use Rattle.std.proofs.Common.{◌<◌, ℕ, List, length, get_or, ap, subst, arith, take_all}
use Rattle.std.specs.List.{All}
use Rattle.std.proofs.lemmas.List.{length-map, get_or-map}
use Rattle.pd_base.specs.declared.ids.LineId.{LineId}
use Rattle.netlist.specs.Circuit.{Circuit, line_count}
use Rattle.state_sets.specs.declared.state.StateSet.{StateSet}
use Rattle.implication.specs.Begun.{HasBegunWith, AreBegun}
use Rattle.implication.specs.ByLevel.{lines_by_level}
use Rattle.implication.proofs.Idling.{begun_none, begun_more}
use Rattle.implication.proofs.idle.begin_ranked.Goals as goal

-- a line that is listed is one of the circuit
line_in_circuit : (c : Circuit) (ranked : List (ℕ × LineId)) → All (λ line. line.0 < line_count c) (lines_by_level ranked) → (index : ℕ)
    → index < length ranked → (get_or ranked index (0, record { 0 = 0 })).1.0 < line_count c
line_in_circuit c ranked all index within =
    let entry_line : ℕ × LineId → LineId = λ entry. entry.1 in
    let at = all index (record { 0 = 0 }) (omega (arith, within, length-map ranked entry_line)) in
    omega (arith, at, ap (λ (line : LineId). line.0) (get_or-map entry_line ranked index (0, record { 0 = 0 }) (record { 0 = 0 }) within))

pub loop-line-init : goal.loop-line-init
loop-line-init g c =
    begun_none g.A.Algebra.algebra c.args.net.now c.args.launched (lines_by_level c.args.ranked.now) c.args.board.now c.requires.within

pub loop-line-preserved : goal.loop-line-preserved
loop-line-preserved g c =
    let ranked = c.args.ranked.now in let lines = lines_by_level ranked in
    let entry_line : ℕ × LineId → LineId = λ entry. entry.1 in let none : ℕ × LineId = (0, record { 0 = 0 }) in
    let in_lines : c.loop-line.line-index < length lines = omega (arith, c.loop-line-test.true, length-map ranked entry_line) in
    begun_more g.A.Algebra.algebra c.args.net.now c.args.launched c.sources.ensures.circuit lines c.requires.in_circuit c.requires.by_level
    c.loop-line.line-index in_lines c.args.board.now c.loop-line.board c.write.new.self c.requires.one_each c.loop-line.invariant
    (get_or ranked c.loop-line.line-index none).1 (get_or-map entry_line ranked c.loop-line.line-index none (record { 0 = 0 }) c.loop-line-test.true)
    c.set_to_begin-set.result c.set_to_begin-set.ensures.within
    (subst (λ (labels : List StateSet). HasBegunWith g.A.Algebra.algebra c.args.net.now c.args.launched labels
    (get_or ranked c.loop-line.line-index none).1.0 c.set_to_begin-set.result) c.labels.ensures.labels c.set_to_begin-set.ensures.begun)
    c.write.ensures

pub set_to_begin-set-requires-clause-line : goal.set_to_begin-set-requires-clause-line
set_to_begin-set-requires-clause-line g c =
    line_in_circuit c.args.net.now c.args.ranked.now c.requires.in_circuit c.loop-line.line-index c.loop-line-test.true

pub write-requires-clause-line : goal.write-requires-clause-line
write-requires-clause-line g c =
    let within = line_in_circuit c.args.net.now c.args.ranked.now c.requires.in_circuit c.loop-line.line-index c.loop-line-test.true in
    omega (arith, within, c.loop-line.invariant.one_each, c.requires.one_each)

pub returns : goal.returns
returns g c =
    let lines = lines_by_level c.args.ranked.now in
    subst (λ (ls : List LineId). AreBegun g.A.Algebra.algebra c.args.net.now c.args.launched ls c.args.board.now c.loop-line.board)
    (take_all c.loop-line.line-index lines
    (omega (arith, c.loop-line-test.false, length-map c.args.ranked.now (λ (entry : ℕ × LineId). entry.1))))
    c.loop-line.invariant
