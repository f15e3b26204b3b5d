-- The item is behind what the buffer held; then the open file takes nothing, all that the buffer holds, or a front of it.
use Rattle.std.proofs.Common.{List, ℕ, ◌+◌, ◌++◌, ap, subst, ◌∙◌}
use Rattle.pd_io.specs.OpenFile.{TakesFront}
use Rattle.pd_io.specs.Telling.{Tells}
use Rattle.pd_io.proofs.Tellings.{on_err}
use Rattle.pd_io.proofs.OpenFile.{told_front, told_front_before, told_none}
use Rattle.pd_io.proofs.appending.append_item.Goals as goal

pub returns-in_err-push_item-clause-err : goal.returns-in_err-push_item-clause-err
returns-in_err-push_item-clause-err g c =
    let writer = g.F.Files.writer c.args.files.now in
    on_err c.from_residual.result (told_front writer _ _ _ _ (told_none writer (g.F.Files.folder c.args.files.now) _))

pub returns-in_err-append_all-clause-err : goal.returns-in_err-append_all-clause-err
returns-in_err-append_all-clause-err g c =
    let writer = g.F.Files.writer c.args.files.now in
    let later = g.P.Pieces.left c.args.pieces.now (c.args.index + 1) in
    let P : List ℕ → Type 0 = λ coming. Tells (g.F.Files.folder c.args.files.now) (g.F.Files.folder c.append_all.new.files) (TakesFront writer coming) in
    on_err c.from_residual-in_err-append_all.result
    (subst P (ap (λ (l : List ℕ). l ++ later) c.as_slice.ensures.value ∙ c.in_ok-push_item.ensures)
    (told_front_before writer _ _ _ later c.in_err-append_all.ensures.err))
