-- The row of one entry more is listed.
use Rattle.std.proofs.Common.{ap, sym, ◌∙◌}
use Rattle.std.proofs.lemmas.List.{map_more, take_all}
use Rattle.prefix_sensitize.specs.PathOrder.{rows_in}
use Rattle.prefix_sensitize.proofs.path_tree.rows_in.Goals as goal

pub loop-row-preserved : goal.loop-row-preserved
loop-row-preserved c =
    rw c.in_ok-push.ensures.items
    (rw c.loop-row.invariant (sym (map_more (λ entry. entry.2) c.args.entries.now c.loop-row.row-index _ c.loop-row-test.true)))

pub returns : goal.returns
returns c = c.loop-row.invariant ∙ ap rows_in (take_all c.loop-row.row-index c.args.entries.now c.loop-row-test.false)
