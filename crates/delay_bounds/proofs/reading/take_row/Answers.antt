-- An accepted row is kept, and another one refused.
use Rattle.std.proofs.Common.{refl}
use Rattle.std.proofs.lemmas.Result.{err_from_is_err_and}
use Rattle.csv.specs.Records.{fields_of}
use Rattle.delay_bounds.specs.Inside.Taking.FailsToTake.{no_memory}
use Rattle.delay_bounds.proofs.Taken.{refuses_row, takes_said}
use Rattle.delay_bounds.proofs.reading.take_row.Goals as goal

pub returns-in_ok-keep-in-Ok-clause-ok : goal.returns-in_ok-keep-in-Ok-clause-ok
returns-in_ok-keep-in-Ok-clause-ok c =
    takes_said c.args.tests c.args.number (fields_of c.args.row.now) c.in-Ok.said c.args.log.now.items _
    c.if-number-eq1.false c.in-Ok.ensures c.in_ok-keep-in-Ok.ensures

pub returns-in_err-keep-in-Ok-clause-err : goal.returns-in_err-keep-in-Ok-clause-err
returns-in_err-keep-in-Ok-clause-err c =
    let p = err_from_is_err_and c.from_residual.result c.from_residual.ensures.1 in
    rw (p.1, p.2) (no_memory refl)

pub returns-in-Err-clause-err : goal.returns-in-Err-clause-err
returns-in-Err-clause-err c =
    refuses_row c.args.tests c.args.number (fields_of c.args.row.now) c.args.log.now.items c.in-Err.why
    c.if-number-eq1.false c.in-Err.ensures
