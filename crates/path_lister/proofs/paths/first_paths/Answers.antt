-- The graph's walks are short and go through pins, and the paths of its first walks are the first paths.
use Rattle.std.proofs.Common.{◌≡◌, List, map, sym, subst, ◌∙◌, ap}
use Rattle.std.specs.List.{All}
use Rattle.std.proofs.lemmas.Result.{IfOk-weaker}
use Rattle.pd_base.specs.declared.ids.PinRef.{PinRef}
use Rattle.netlist.specs.Order.{AreFirst}
use Rattle.delay_annotation.specs.Annotation.{delays_of}
use Rattle.path_laws.specs.CircuitGraph.{GoesOnThroughPins, route_of}
use Rattle.path_laws.proofs.FirstPaths.{first_paths_from_walks}
use Rattle.path_lister.proofs.Bounds.{short_walks, walks_go_on}
use Rattle.path_lister.proofs.paths.first_paths.Goals as goal

pub first_walks-requires : goal.first_walks-requires
first_walks-requires c =
    short_walks c.args.net.now c.graph_of.ensures.circuit c.args.delays.now c.requires.fits c.in_ok-own.own.pins.items _
    c.in_ok-own.ensures.graph

pub paths_of-requires : goal.paths_of-requires
paths_of-requires c =
    subst (λ (pins : List PinRef). All (GoesOnThroughPins c.args.net.now pins) c.in_ok-listing.listing)
    (sym c.as_slice.ensures.value)
    (walks_go_on c.args.net.now (delays_of c.args.net.now c.args.delays.now) c.in_ok-own.own.pins.items c.in_ok-own.own.graph
    c.in_ok-own.ensures.graph c.in_ok-listing.listing c.in_ok-listing.ensures.are_walks)

pub returns : goal.returns
returns c =
    let net = c.args.net.now in
    let delays = delays_of c.args.net.now c.args.delays.now in
    let under = c.in_ok-own.ensures.graph in
    let pins = c.in_ok-own.own.pins.items in
    let walks = c.in_ok-listing.listing in
    let first = first_paths_from_walks net delays under.nodes pins c.in_ok-own.own.graph under.graph c.args.count walks
    c.in_ok-listing.ensures in
    IfOk-weaker c.paths_of.result (λ paths. paths.items ≡ map (route_of net c.as_slice.result.now) walks)
    (λ paths. AreFirst net delays c.args.count paths.items)
    (λ paths are.
    subst (AreFirst net delays c.args.count)
    (sym (are ∙ ap (λ (all : List PinRef). map (route_of net all) walks) c.as_slice.ensures.value)) first)
    c.paths_of.ensures
