-- One path more.
use Rattle.std.proofs.Common.{max, sym, ap₂, ◌∙◌}
use Rattle.claim_check.proofs.Counting.{greatest_more}
use Rattle.claim_check.proofs.counts.greatest_cited.Goals as goal

pub loop-listed-preserved : goal.loop-listed-preserved
loop-listed-preserved c =
    let more = greatest_more c.args.paths.now c.loop-listed.listed-index c.listed-item.result c.loop-listed-test.true c.listed-item.is in
    c.greater-greatest.ensures
    ∙ ap₂ max (c.greater.ensures ∙ ap₂ max c.loop-listed.invariant c.cited_by.ensures) c.cited_by-in-loop-listed.ensures ∙ sym more
