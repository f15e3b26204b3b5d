-- A place more is part of the stretch where its path begins so, and the first one whose path doesn't ends it.
use Rattle.std.proofs.Common.{◌≡◌, inl, inr, ◌+◌, length, get_or, true≢false, sym, subst, ◌∙◌, arith}
use Rattle.std.proofs.lemmas.Option.{get_or_from_slice_get}
use Rattle.netlist.specs.Paths.{IsPrefixOf, prefix_of}
use Rattle.path_laws.proofs.Prefixes.{prefix_of-is_prefix}
use Rattle.prefix_sensitize.specs.PathOrder.{IsStretch}
use Rattle.prefix_sensitize.proofs.PathOrder.{IsPart, part_begun, part_ended, part_more, stands_once, stands_read}
use Rattle.prefix_sensitize.proofs.stretch.stretch_from.Goals as goal

pub loop-at-init : goal.loop-at-init
loop-at-init c row route stands =
    let routes = c.args.paths.now in
    let order = c.args.order.now in
    let place = c.args.place in
    let prefix = prefix_of c.args.steps route in
    subst (IsPart routes order prefix place (place + 1)) (sym (get_or_from_slice_get order place row 0 stands.is_placed))
    (part_begun routes order prefix place row route stands (prefix_of-is_prefix c.args.steps route))

pub has_first_steps-requires : goal.has_first_steps-requires
has_first_steps-requires c =
    let order = c.args.order.now in
    c.requires.steps (get_or order c.args.place 0) c.index-paths-order.result
    (stands_read c.args.paths.now order c.requires.order.inside c.args.place c.index-paths-order.result c.requires.place
    c.index-paths-order.is)

pub returns-then-not-has_first_steps : goal.returns-then-not-has_first_steps
returns-then-not-has_first_steps c row route stands =
    let routes = c.args.paths.now in
    let order = c.args.order.now in
    let at = c.loop-at.at in
    let place = c.args.place in
    let inside = c.requires.order.inside in
    let prefix = prefix_of c.args.steps route in
    let first = stands_read routes order inside place c.index-paths-order.result c.requires.place c.index-paths-order.is in
    let other = stands_read routes order inside at c.index-paths-row.result c.loop-at-test.true c.index-paths-row.is in
    let same : c.index-paths-order.result ≡ route =
    (stands_once routes order place (get_or order place 0) row c.index-paths-order.result route first stands).1 in
    part_ended routes order prefix c.requires.order place at c.loop-at.least row route (c.loop-at.invariant row route stands) stands
    (inr (
      get_or order at 0,
      c.index-paths-row.result,
      other,
      λ of. true≢false
          (sym (c.has_first_steps.ensures.1
          (subst (λ path. IsPrefixOf (prefix_of c.args.steps path) c.index-paths-row.result) (sym same) of))
          ∙ c.if-not-has_first_steps.true),
    ))

pub loop-at-preserved : goal.loop-at-preserved
loop-at-preserved c row route stands =
    let routes = c.args.paths.now in
    let order = c.args.order.now in
    let at = c.loop-at.at in
    let place = c.args.place in
    let inside = c.requires.order.inside in
    let prefix = prefix_of c.args.steps route in
    let first = stands_read routes order inside place c.index-paths-order.result c.requires.place c.index-paths-order.is in
    let other = stands_read routes order inside at c.index-paths-row.result c.loop-at-test.true c.index-paths-row.is in
    let same : c.index-paths-order.result ≡ route =
    (stands_once routes order place (get_or order place 0) row c.index-paths-order.result route first stands).1 in
    subst (IsPart routes order prefix place (at + 1)) (sym c.min-least.ensures)
    (part_more routes order prefix place at c.loop-at.least (get_or order at 0) c.index-paths-row.result
    (c.loop-at.invariant row route stands) other
    (subst (λ path. IsPrefixOf (prefix_of c.args.steps path) c.index-paths-row.result) same
    (c.has_first_steps.ensures.0 c.if-not-has_first_steps.false)))

pub returns : goal.returns
returns c row route stands =
    let routes = c.args.paths.now in
    let order = c.args.order.now in
    let place = c.args.place in
    let prefix = prefix_of c.args.steps route in
    let end : c.loop-at.at ≡ length order = omega (arith, (c.loop-at.invariant row route stands).in_order) in
    subst (λ at. IsStretch routes order prefix place at c.loop-at.least) end
    (part_ended routes order prefix c.requires.order place c.loop-at.at c.loop-at.least row route (c.loop-at.invariant row route stands)
    stands (inl (omega arith)))
