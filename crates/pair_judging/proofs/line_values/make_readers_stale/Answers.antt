-- One pin more, and its gate is stale.
use Rattle.std.proofs.Common.{true, ℕ, ◌+◌, take, set, sym, subst, arith}
use Rattle.cones.proofs.RankPlaces.{place_in_order}
use Rattle.pair_judging.proofs.StaleGates.{AddsGates, adds_none, adds_more, adds_all}
use Rattle.pair_judging.proofs.line_values.make_readers_stale.Goals as goal

pub loop-pin-init : goal.loop-pin-init
loop-pin-init c = adds_none c.args.gates.now.places c.args.stale.now

pub bounds-stale-place_of : goal.bounds-stale-place_of
bounds-stale-place_of c =
    let pin = c.fanout-pin-items.ensures.on_line c.loop-pin.pin-index (record { gate = record { 0 = 0 }; pin = 0 }) c.loop-pin-test.true in
    let gates = c.args.gates.now in
    let ranked = c.requires.gates in
    let at = place_in_order c.args.net.now gates.order ranked.ordered gates.places ranked.ranks _ pin.in_circuit in
    omega (arith, at.1, at.3, c.place_of.ensures, c.loop-pin.invariant.marks, c.requires.marks)

pub loop-pin-preserved : goal.loop-pin-preserved
loop-pin-preserved c =
    let pins = c.fanout-pin-items.result.now in
    let place = c.loop-pin.pin-index in
    let places = c.args.gates.now.places in
    let pin = c.fanout-pin-items.ensures.on_line place (record { gate = record { 0 = 0 }; pin = 0 }) c.loop-pin-test.true in
    let ranked = c.requires.gates in
    let at = place_in_order c.args.net.now c.args.gates.now.order ranked.ordered places ranked.ranks _ pin.in_circuit in
    subst (λ (n : ℕ). AddsGates places (take (place + 1) pins) c.args.stale.now (set c.loop-pin.stale n true)) (sym c.place_of.ensures)
    (adds_more places pins place c.loop-pin-test.true c.args.stale.now c.loop-pin.stale c.loop-pin.invariant
    (omega (arith, at.1, at.3, c.loop-pin.invariant.marks, c.requires.marks)))

pub returns : goal.returns
returns c =
    adds_all c.args.net.now c.args.gates.now.places c.args.line.0 c.fanout-pin-items.result.now c.fanout-pin-items.ensures c.loop-pin.pin-index
    c.loop-pin-test.false c.args.stale.now c.loop-pin.stale c.loop-pin.invariant
