-- A file that was begun holds all bytes, or a front of them.
use Rattle.pd_io.proofs.Tellings.{on_err}
use Rattle.pd_io.proofs.OpenFile.{begun_part, ended_part, ended_whole, untouched_part}
use Rattle.pd_io.proofs.whole.write_whole.Goals as goal

pub returns-in_err-begin_write-clause-err : goal.returns-in_err-begin_write-clause-err
returns-in_err-begin_write-clause-err g c =
    on_err c.from_residual.result (untouched_part _ _ _ _ c.in_err-begin_write.ensures.told)

pub returns-in_err-append_all-clause-err : goal.returns-in_err-append_all-clause-err
returns-in_err-append_all-clause-err g c =
    on_err c.from_residual-in_err-append_all.result
    (begun_part _ _ _ _ _ _ c.in_ok-begin_write.ensures.begins c.in_ok-begin_write.ensures.told c.in_err-append_all.ensures.err)

pub returns-in_err-finish-clause-err : goal.returns-in_err-finish-clause-err
returns-in_err-finish-clause-err g c =
    on_err c.from_residual-in_err-finish.result
    (ended_part _ _ _ _ _ _ c.in_ok-begin_write.ensures.begins c.in_ok-begin_write.ensures.told _ c.finish.ensures.folder
    c.in_ok-append_all.ensures.ok)

pub returns-clause-ok : goal.returns-clause-ok
returns-clause-ok g c =
    ended_whole _ _ _ _ _ _ c.in_ok-begin_write.ensures.begins c.in_ok-begin_write.ensures.told _ c.finish.ensures.folder
    c.in_ok-append_all.ensures.ok
