-- One path more has its new prefixes more.
use Rattle.std.proofs.Common.{◌≤◌, ℕ, length, get_or, arith}
use Rattle.std.proofs.lemmas.List.Elements.{All-get_or}
use Rattle.pd_base.specs.Route.{Route}
use Rattle.netlist.specs.declared.limits.TheConstants.{MOST_LEVELS}
use Rattle.prefix_sensitize.proofs.PathOrder.{stands_there}
use Rattle.prefix_sensitize.proofs.PathOrderPrefixes.{all_places, no_route, one_more_place}
use Rattle.prefix_sensitize.proofs.path_tree.count_prefixes.Goals as goal

pub overflow_add-prefixes : goal.overflow_add-prefixes
overflow_add-prefixes c =
    let routes = c.args.paths.now in
    let order = c.args.order.now in
    let place = c.loop-place.place in
    let row : ℕ = get_or order place 0 in
    let route : Route = get_or routes row no_route in
    let there = stands_there routes order c.requires.order.inside place 0 no_route c.loop-place-test.true in
    let adds = c.new_prefixes.ensures row route there in
    let short : length route.steps ≤ MOST_LEVELS =
    All-get_or (λ (path : Route). length path.steps ≤ MOST_LEVELS) routes row no_route
    (c.requires.order.inside place 0 c.loop-place-test.true) c.requires.short in
    omega (arith, adds.within, c.requires.order.one_each, c.loop-place.invariant.few)

pub loop-place-preserved : goal.loop-place-preserved
loop-place-preserved c =
    let routes = c.args.paths.now in
    let order = c.args.order.now in
    let place = c.loop-place.place in
    let row : ℕ = get_or order place 0 in
    let route : Route = get_or routes row no_route in
    let there = stands_there routes order c.requires.order.inside place 0 no_route c.loop-place-test.true in
    let adds = c.new_prefixes.ensures row route there in
    let short : length route.steps ≤ MOST_LEVELS =
    All-get_or (λ (path : Route). length path.steps ≤ MOST_LEVELS) routes row no_route
    (c.requires.order.inside place 0 c.loop-place-test.true) c.requires.short in
    record {
      count =
          one_more_place routes order c.requires.order place row c.loop-place.prefixes c.new_prefixes.result route there adds
          c.loop-place.invariant.count;
      few = omega (arith, adds.within, c.loop-place.invariant.few);
    }

pub returns-clause-count : goal.returns-clause-count
returns-clause-count c =
    all_places c.args.paths.now c.args.order.now c.requires.order c.loop-place.place c.loop-place.prefixes (omega arith)
    c.loop-place.invariant.count
