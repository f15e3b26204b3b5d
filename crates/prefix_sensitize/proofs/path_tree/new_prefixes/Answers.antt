-- New is what the path doesn't share with the one just before it.
use Rattle.std.proofs.Common.{◌≡◌, ℕ, ◌+◌, ◌-◌, get_or, length, take, sym, ap, subst, ◌∙◌, arith}
use Rattle.pd_base.specs.Route.{Route}
use Rattle.prefix_sensitize.specs.PathOrder.{SharePrefix, routes_in}
use Rattle.prefix_sensitize.specs.Prefixes.{HasNewPrefixes}
use Rattle.prefix_sensitize.proofs.PathOrder.{stands_once, stands_read}
use Rattle.prefix_sensitize.proofs.PathOrderPrefixes.{not_shared_new}
use Rattle.prefix_sensitize.proofs.path_tree.new_prefixes.Goals as goal

pub returns : goal.returns
returns c row route stands =
    let routes = c.args.paths.now in
    let order = c.args.order.now in
    let place = c.args.place in
    let shared = c.shared_prefix.result in
    let inside = c.requires.order.inside in
    let before : ℕ = place - 1 in
    let next : before + 1 ≡ place = omega (arith, c.if-place-eq0.false) in
    let own = stands_read routes order inside place c.index-paths-order.result c.requires.place c.index-paths-order.is in
    let other =
    stands_read routes order inside before c.index-paths-order-2.result (omega (arith, c.requires.place)) c.index-paths-order-2.is in
    let same : c.index-paths-order.result ≡ route =
    (stands_once routes order place (get_or order place 0) row c.index-paths-order.result route own stands).1 in
    let long : length c.steps-2.result.now ≡ length route.steps =
    ap length c.steps-2.ensures ∙ ap (λ (path : Route). length path.steps) same in
    subst (λ count. HasNewPrefixes (routes_in routes (take place order)) route (count - shared)) (sym long)
    (not_shared_new routes order c.requires.order place row route stands before (get_or order before 0) c.index-paths-order-2.result next
    other shared (subst (λ path. SharePrefix c.index-paths-order-2.result path shared) same c.shared_prefix.ensures))
