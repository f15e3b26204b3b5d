-- One item more; and an item that was not appended.
use Rattle.std.proofs.Common.{◌≡◌, ◌++◌, List, ℕ, ap, subst, ◌∙◌, arith}
use Rattle.std.proofs.lemmas.List.{append-nil}
use Rattle.pd_io.specs.OpenFile.{TakesUpTo}
use Rattle.pd_io.specs.Telling.{Tells}
use Rattle.pd_io.proofs.Tellings.{on_err}
use Rattle.pd_io.proofs.OpenFile.{keeps_both, told_later, told_later_front}
use Rattle.pd_io.proofs.appending.append_items.Goals as goal

pub returns-in_err-append_item-clause-err : goal.returns-in_err-append_item-clause-err
returns-in_err-append_item-clause-err g c =
    on_err c.from_residual.result
    (told_later_front _ _ c.loop-index.invariant.keeps.writer _ _ _ _ _ c.loop-index.invariant.taken c.in_err-append_item.ensures.err)

pub loop-index-preserved : goal.loop-index-preserved
loop-index-preserved g c = record {
  taken = told_later _ _ c.loop-index.invariant.keeps.writer _ _ _ _ _ _ c.loop-index.invariant.taken c.in_ok-append_item.ensures.ok;
  keeps = keeps_both _ _ _ c.loop-index.invariant.keeps c.append_item.ensures.keeps;
  unchanged = c.in_ok-append_item.ensures.cause.only_then ∙ c.loop-index.invariant.unchanged;
}

-- behind the last item nothing is to come but what the buffer has
pub returns-clause-ok : goal.returns-clause-ok
returns-clause-ok g c =
    let files = g.F.Files in
    let left = g.P.Pieces.left c.args.pieces.now in
    let held = c.loop-index.buffer.items in
    let at_end : c.loop-index.index ≡ c.count-index-end.result = omega arith in
    let none : held ++ left c.loop-index.index ≡ held =
    ap (λ (more : List ℕ). held ++ more) (ap left at_end ∙ c.count-index-end.ensures.end) ∙ append-nil held in
    subst (λ (shown : List ℕ). Tells (files.folder c.args.files.now) (files.folder c.loop-index.files)
    (TakesUpTo (files.writer c.args.files.now) (c.args.buffer.now.items ++ left 0) shown)) none c.loop-index.invariant.taken
