-- The tree that is settled with is one closed leaf.
use Rattle.std.proofs.Common.{ℕ, List, IfOk, subst}
use Rattle.pd_base.specs.Route.{Route}
use Rattle.trees.specs.declared.tree.Node.{Node}
use Rattle.justify.specs.declared.answer.Found.TheVariants.{Refuted}
use Rattle.prefix_sensitize.specs.PathOrder.{StandsInOrder}
use Rattle.prefix_sensitize.specs.Settling.{Settles}
use Rattle.prefix_sensitize.proofs.settling.settle_start.Goals as goal

pub returns : goal.returns
returns c =
    let course = c.args.course.now in
    let place = c.args.place in
    let old = c.args.found.now in
    let new = c.settle.new.found in
    let P : List Node → Type 0 =
    λ tree. IfOk c.settle.result
    (λ (end : ℕ). (row : ℕ) (route : Route) → StandsInOrder course.paths.now course.order.now place row route
    → Settles course place row route 0 (Refuted tree) end old.outcomes.items new.outcomes.items old.proofs.items new.proofs.items) in
    subst P c.in_ok-tree.ensures c.settle.ensures
