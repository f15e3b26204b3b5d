-- One number more.
use Rattle.std.proofs.Common.{sym, ap, max, get_or, ◌∙◌, arith}
use Rattle.net_builder.proofs.GreatestMore.{greatest_next}
use Rattle.net_builder.proofs.measures.greatest_of.Goals as goal

pub loop-number-preserved : goal.loop-number-preserved
loop-number-preserved c =
    let xs = c.args.numbers.now in
    let i = c.loop-number.number-index in
    c.max-most.ensures ∙ ap (λ m. max m (get_or xs i 0)) c.loop-number.invariant ∙ sym (greatest_next xs i (omega arith))
