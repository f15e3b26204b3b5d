-- The line ends where a piece of it was not taken whole; else all of it stands on err.
use Rattle.std.proofs.Common.{[], ◌∷◌, ◌++◌, Ok, Err}
use Rattle.std.proofs.lemmas.Result.{err_from_is_err_and}
use Rattle.pd_io.specs.Seen.{sink_seen}
use Rattle.text_pieces.specs.Tokens.{line_feed}
use Rattle.calls.specs.Parts.{parts_text}
use Rattle.calls.proofs.Pieces.{cut_there, then_written}
use Rattle.calls.proofs.telling.write_line.Goals as goal

pub returns-in_err-write_parts : goal.returns-in_err-write_parts
returns-in_err-write_parts g c =
    let p = err_from_is_err_and c.from_residual.result c.from_residual.ensures.1 in
    rw (p.1, p.2) (cut_there (parts_text c.args.parts.now ++ c.args.name.now) (line_feed ∷ []) _ _ _
    (cut_there (parts_text c.args.parts.now) c.args.name.now _ _ _ c.in_err-write_parts.ensures))

pub returns-in_err-write_text : goal.returns-in_err-write_text
returns-in_err-write_text g c =
    let p = err_from_is_err_and c.from_residual-in_err-write_text.result c.from_residual-in_err-write_text.ensures.1 in
    rw (p.1, p.2) (cut_there (parts_text c.args.parts.now ++ c.args.name.now) (line_feed ∷ []) _ _ _
    (then_written (parts_text c.args.parts.now) c.args.name.now (Err _) _ (sink_seen g.E.Sink c.write_parts.new.err)
    (sink_seen g.E.Sink c.write_text.new.err) c.in_ok-write_parts.ensures c.in_err-write_text.ensures))

pub returns : goal.returns
returns g c =
    then_written (parts_text c.args.parts.now ++ c.args.name.now) (line_feed ∷ []) c.write_text-2.result _
    (sink_seen g.E.Sink c.write_text.new.err) _
    (then_written (parts_text c.args.parts.now) c.args.name.now (Ok tt) _ (sink_seen g.E.Sink c.write_parts.new.err) _
    c.in_ok-write_parts.ensures c.in_ok-write_text.ensures) c.write_text-2.ensures
