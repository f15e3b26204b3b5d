-- Each turn marks the node of one observed line more.
use Rattle.std.proofs.Common.{List, get_or, set, take, take_all, true, sym, subst, ◌∙◌, arith}
use Rattle.std.proofs.lemmas.Grind.{common_steps}
use Rattle.std.proofs.lemmas.List.{take_more}
use Rattle.pd_base.specs.declared.ids.LineId.{LineId}
use Rattle.netlist.specs.Circuit.{HasLines}
use Rattle.path_laws.specs.CircuitGraph.{node_of}
use Rattle.path_lister.proofs.Stopping.{AreMarked, all_marked, marked_more}
use Rattle.path_lister.proofs.arcs.stops_of.Goals as goal

pub loop-line-preserved : goal.loop-line-preserved
loop-line-preserved c =
    let lines = c.observed-line-items.result.now in
    let nodes = c.args.nodes.now in
    let none : LineId = record { 0 = 0 } in
    let next = get_or lines c.loop-line.line-index none in
    subst (λ (done : List LineId). AreMarked c.args.net.now nodes done (set c.loop-line.stops.items (node_of nodes next.0) true))
    (sym (take_more lines c.loop-line.line-index none c.loop-line-test.true))
    (marked_more c.args.net.now nodes c.requires (take c.loop-line.line-index lines) next c.loop-line.stops.items
    (c.observed-line-items.ensures.in_circuit c.loop-line.line-index none c.loop-line-test.true) c.loop-line.invariant)

pub loop-line-init : goal.loop-line-init
loop-line-init c = grind (arith, common_steps)

pub bounds-nodes-line : goal.bounds-nodes-line
bounds-nodes-line c =
    let none : LineId = record { 0 = 0 } in
    omega (arith, c.observed-line-items.ensures.in_circuit c.loop-line.line-index none c.loop-line-test.true, c.requires.node_each)

pub index_mut-requires : goal.index_mut-requires
index_mut-requires c =
    let none : LineId = record { 0 = 0 } in
    let next = get_or c.observed-line-items.result.now c.loop-line.line-index none in
    let inside = c.observed-line-items.ensures.in_circuit c.loop-line.line-index none c.loop-line-test.true in
    omega (arith, c.requires.within next.0 inside, c.loop-line.invariant.node_each, c.loop-line.stops.ok.0)

pub returns : goal.returns
returns c =
    let net = c.args.net.now in
    let nodes = c.args.nodes.now in
    let lines = c.observed-line-items.result.now in
    let observed = c.observed-line-items.ensures.observed in
    let all = take_all c.loop-line.line-index lines c.loop-line-test.false ∙ observed in
    all_marked net nodes c.requires c.loop-line.stops.items (subst (HasLines net) observed c.observed-line-items.ensures.in_circuit)
    (subst (λ (done : List LineId). AreMarked net nodes done c.loop-line.stops.items) all c.loop-line.invariant)
