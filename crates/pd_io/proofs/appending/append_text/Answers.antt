-- All items went, but for what the buffer holds at the end; then all of that, or a front of it.
use Rattle.std.proofs.Common.{List, ℕ, ◌++◌, ap, ◌∙◌}
use Rattle.pd_io.proofs.OpenFile.{rest_front_taken, rest_taken}
use Rattle.pd_io.proofs.appending.append_text.Goals as goal

pub returns-clause-ok : goal.returns-clause-ok
returns-clause-ok g c =
    let text = g.P.Pieces.text c.args.pieces.now in
    rest_taken _ _ c.in_ok-append_items.ensures.keeps.writer _ _ _ _ text _ _
    (c.in_ok-push_head.ensures ∙ ap (λ (l : List ℕ). l ++ text) c.new-buffer.ensures.items) c.as_slice.ensures.value
    c.in_ok-append_items.ensures.ok c.append_all.result c.append_all.ensures.ok

pub returns-clause-err : goal.returns-clause-err
returns-clause-err g c =
    let text = g.P.Pieces.text c.args.pieces.now in
    rest_front_taken _ _ c.in_ok-append_items.ensures.keeps.writer _ _ _ _ text _ _
    (c.in_ok-push_head.ensures ∙ ap (λ (l : List ℕ). l ++ text) c.new-buffer.ensures.items) c.as_slice.ensures.value
    c.in_ok-append_items.ensures.ok c.append_all.result c.append_all.ensures.err
