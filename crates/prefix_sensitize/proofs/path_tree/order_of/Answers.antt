-- The entries are sorted, so their rows stand in the order of a walk.
use Rattle.std.proofs.Common.{◌≡◌, sym, subst, ◌∙◌, ap}
use Rattle.std.proofs.lemmas.Result.{IfOk-weaker}
use Rattle.prefix_sensitize.specs.PathOrder.{IsOrder, rows_in}
use Rattle.prefix_sensitize.proofs.PathOrderEntries.{are_in_order}
use Rattle.prefix_sensitize.proofs.path_tree.order_of.Goals as goal

pub returns : goal.returns
returns c =
    let routes = c.args.paths.now in
    let sorted = c.sort_unstable.new.self.items in
    let order = are_in_order routes c.in_ok-entries.entries.items sorted c.in_ok-entries.ensures.entries c.in_ok-entries.ensures.rows
    c.sort_unstable.ensures.permutation c.sort_unstable.ensures.sorted in
    IfOk-weaker c.rows_in.result (λ rows. rows.items ≡ rows_in c.as_slice.result.now) (λ rows. IsOrder routes rows.items)
    (λ rows is. subst (IsOrder routes) (sym (is ∙ ap rows_in c.as_slice.ensures.value)) order)
    c.rows_in.ensures
