-- Each turn finds one line more.
use Rattle.std.proofs.Common.{get_or, arith}
use Rattle.std.proofs.lemmas.List.{get_or_default}
use Rattle.pd_base.specs.declared.ids.LineId.{LineId}
use Rattle.cones.proofs.Finding.{finds_none, finds_next}
use Rattle.cones.proofs.found_lines.FoundLines.add_all.Goals as goal

pub loop-line-init : goal.loop-line-init
loop-line-init c = finds_none c.args.self.now

pub add-requires : goal.add-requires
add-requires c =
    let within = c.requires c.loop-line.line-index (record { 0 = 0 }) c.loop-line-test.true in
    omega (arith, within, c.loop-line.invariant.room)

pub loop-line-preserved : goal.loop-line-preserved
loop-line-preserved c =
    let next : LineId = get_or c.args.lines.now c.loop-line.line-index (record { 0 = 0 }) in
    finds_next c.args.lines.now c.loop-line.line-index next c.args.self.now c.loop-line.self c.add.new.self c.loop-line-test.true
    (get_or_default c.args.lines.now c.loop-line.line-index next (record { 0 = 0 }) c.loop-line-test.true)
    c.loop-line.invariant c.add.ensures
