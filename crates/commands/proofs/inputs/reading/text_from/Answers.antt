use Rattle.std.proofs.lemmas.Result.{err_from_is_err_and}
use Rattle.commands.specs.Inside.InputJudging as judging
use Rattle.commands.proofs.inputs.reading.text_from.Goals as goal

-- a file that was not read is told so
pub returns-in_err-bytes-clause-failed : goal.returns-in_err-bytes-clause-failed
returns-in_err-bytes-clause-failed g c =
    let p = err_from_is_err_and c.from_residual.result c.from_residual.ensures.1 in
    rw (p.1, p.2) (judging.unread c.in_err-bytes.ensures.failed)
