-- The tree has all prefixes of the paths.
use Rattle.prefix_sensitize.proofs.Counting.{counted_all}
use Rattle.prefix_sensitize.proofs.sensitizing.search_in_order.Goals as goal

pub returns-clause-steps : goal.returns-clause-steps
returns-clause-steps g c =
    counted_all c.args.paths.now c.in_ok-tree.tree
    (record { order = c.in_ok-tree.ensures.order; prefixes = c.in_ok-tree.ensures.prefixes; few = c.in_ok-tree.ensures.few }) 4
    c.args.steps.now c.search_all.new.steps c.search_all.ensures.steps
