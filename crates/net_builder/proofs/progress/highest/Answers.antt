-- The greatest of one more pin.
use Rattle.std.proofs.Common.{take, get_or, ap, ◌∙◌, arith}
use Rattle.std.proofs.lemmas.List.{map_more}
use Rattle.netlist.specs.Greatest.{greatest}
use Rattle.pd_base.specs.declared.ids.LineId.{LineId}
use Rattle.net_builder.specs.Progress.{level_in, levels_at}
use Rattle.net_builder.proofs.Counting.{greatest-push}
use Rattle.net_builder.proofs.progress.highest.Goals as goal

pub loop-line-preserved : goal.loop-line-preserved
loop-line-preserved c =
    let levels = c.args.levels.now in
    let reads = c.args.reads.now in
    let i = c.loop-line.line-index in
    let none : LineId = record { 0 = 0 } in
    let more = map_more (λ (line : LineId). level_in levels line.0) reads i none c.loop-line-test.true in
    let step = ap greatest more ∙ greatest-push (levels_at levels (take i reads)) (level_in levels (get_or reads i none).0) in
    grind (arith, c.max-highest.ensures, c.loop-line.invariant, step)
