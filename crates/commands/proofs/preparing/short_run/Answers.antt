-- The texts may be too long, memory ran out, or the run was made.
use Rattle.std.proofs.Common.{refl}
use Rattle.std.proofs.lemmas.Result.{err_from_is_err_and}
use Rattle.commands.specs.Inside.Judging as found
use Rattle.commands.proofs.preparing.short_run.Goals as goal

pub returns-in_err-require_short_texts-clause-fails : goal.returns-in_err-require_short_texts-clause-fails
returns-in_err-require_short_texts-clause-fails c =
    let p = err_from_is_err_and c.from_residual.result c.from_residual.ensures.1 in
    rw (p.1, p.2) (found.too_long c.in_err-require_short_texts.ensures.long)

pub returns-in_err-told_run-clause-fails : goal.returns-in_err-told_run-clause-fails
returns-in_err-told_run-clause-fails c =
    let p = err_from_is_err_and c.from_residual-in_err-told_run.result c.from_residual-in_err-told_run.ensures.1 in
    rw (p.1, p.2) (found.no_memory c.in_ok-require_short_texts.ensures.short refl)

pub returns-clause-gives : goal.returns-clause-gives
returns-clause-gives c = record {
  short = c.in_ok-require_short_texts.ensures.short;
  products_of_run = c.in_ok-told_run.ensures.gives;
}
