-- A part was not taken whole; one more part stands on err; and behind the last they all do.
use Rattle.std.proofs.Common.{List, subst, arith}
use Rattle.std.proofs.lemmas.List.{take_all}
use Rattle.std.proofs.lemmas.Result.{err_from_is_err_and}
use Rattle.pd_io.specs.Seen.{sink_seen}
use Rattle.calls.specs.declared.part.Part.{Part}
use Rattle.calls.specs.Parts.{parts_text}
use Rattle.calls.specs.Reports.{HasWholeLine}
use Rattle.calls.proofs.Pieces.{part_cut, part_written}
use Rattle.calls.proofs.telling.write_parts.Goals as goal

pub returns-in_err-write_part : goal.returns-in_err-write_part
returns-in_err-write_part g c =
    let p = err_from_is_err_and c.from_residual.result c.from_residual.ensures.1 in
    rw (p.1, p.2) (part_cut c.args.parts.now c.loop-part.part-index _ c.loop-part-test.true _ (sink_seen g.E.Sink c.loop-part.err) _
    c.loop-part.invariant _ c.in_err-write_part.ensures)

pub loop-part-preserved : goal.loop-part-preserved
loop-part-preserved g c =
    part_written c.args.parts.now c.loop-part.part-index _ c.loop-part-test.true _ (sink_seen g.E.Sink c.loop-part.err) _
    c.loop-part.invariant c.in_ok-write_part.ensures

pub returns : goal.returns
returns g c =
    subst (λ (parts : List Part). HasWholeLine (parts_text parts) (sink_seen g.E.Sink c.args.err.now) (sink_seen g.E.Sink c.loop-part.err))
    (take_all c.loop-part.part-index c.args.parts.now (omega arith)) c.loop-part.invariant
