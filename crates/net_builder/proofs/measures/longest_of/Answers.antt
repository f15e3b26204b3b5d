-- One name more.
use Rattle.std.proofs.Common.{[], length, sym, ap, max, ◌∙◌, arith}
use Rattle.net_builder.proofs.GreatestMore.{longest_more}
use Rattle.net_builder.proofs.measures.longest_of.Goals as goal

pub overflow_cast-list : goal.overflow_cast-list
overflow_cast-list c =
    let is = c.requires c.loop-line.line [] (omega arith) in
    omega (arith, is.few_bytes, ap length c.list.ensures)

pub loop-line-preserved : goal.loop-line-preserved
loop-line-preserved c =
    c.max-longest.ensures ∙ (λ j. max (c.loop-line.invariant j) (ap length c.list.ensures j))
    ∙ sym (longest_more c.args.names.now c.loop-line.line (omega arith))
