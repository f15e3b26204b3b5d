-- Behind the last item nothing is left of the text.
use Rattle.std.proofs.Common.{◌≡◌, ◌++◌, List, ℕ, ap, sym, ◌∙◌, arith}
use Rattle.std.proofs.lemmas.List.{append-nil}
use Rattle.pd_io.proofs.pieces.whole_text.Goals as goal

pub returns : goal.returns
returns g c =
    let left = g.P.Pieces.left c.args.pieces.now in
    let items = c.loop-index.text.items in
    let at_end : c.loop-index.index ≡ c.count-index-end.result = omega arith in
    let none : items ++ left c.loop-index.index ≡ items =
    ap (λ (more : List ℕ). items ++ more) (ap left at_end ∙ c.count-index-end.ensures.end) ∙ append-nil items in
    sym none ∙ c.loop-index.invariant
