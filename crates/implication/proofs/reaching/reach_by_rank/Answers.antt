-- Each gate is passed once all that it reads is known.
use Rattle.std.proofs.Common.{◌≡◌, length, subst, arith}
use Rattle.implication.proofs.RankedReach.{no_gate, IsReachedTo, reached_first, reached_more, reached_all}
use Rattle.implication.proofs.Spreading.{spread_all, spread_inside}
use Rattle.implication.proofs.reaching.reach_by_rank.Goals as goal

pub loop-gate-init : goal.loop-gate-init
loop-gate-init g c =
    reached_first c.args.net.now c.sources.ensures.circuit c.args.board.now.inside c.args.source c.order-gate-items.result.now
    c.order-gate-items.ensures.rank c.args.reached.now c.add.new.self c.requires.none c.requires.room c.add.ensures

pub loop-gate-preserved : goal.loop-gate-preserved
loop-gate-preserved g c =
    let done = c.reach_gate.ensures in
    reached_more c.args.net.now c.sources.ensures.circuit c.args.board.now.inside c.args.source c.order-gate-items.result.now
    c.order-gate-items.ensures.rank c.loop-gate.gate-index c.loop-gate-test.true c.loop-gate.reached c.reach_gate.new.reached c.loop-gate.invariant
    done.room done.still done.only done.reads

pub reach_gate-requires-clause-gate : goal.reach_gate-requires-clause-gate
reach_gate-requires-clause-gate g c = c.order-gate-items.ensures.rank.in_circuit c.loop-gate.gate-index no_gate c.loop-gate-test.true

pub returns-clause-reached : goal.returns-clause-reached
returns-clause-reached g c =
    let net = c.args.net.now in let inside = c.args.board.now.inside in let order = c.order-gate-items.result.now in
    let past : c.loop-gate.gate-index ≡ length order = omega (arith, c.loop-gate-test.false, c.loop-gate.auto.gate-index-end) in
    let all : IsReachedTo net inside c.args.source.0 order (length order) c.loop-gate.reached =
    subst (λ n. IsReachedTo net inside c.args.source.0 order n c.loop-gate.reached) past c.loop-gate.invariant in
    spread_all net inside c.args.source (length c.loop-gate.reached.lines) c.loop-gate.reached
    (reached_all net c.sources.ensures.circuit inside c.args.source order c.order-gate-items.ensures.rank c.loop-gate.reached all) (omega arith)

pub returns-clause-inside : goal.returns-clause-inside
returns-clause-inside g c =
    let net = c.args.net.now in let inside = c.args.board.now.inside in let order = c.order-gate-items.result.now in
    let past : c.loop-gate.gate-index ≡ length order = omega (arith, c.loop-gate-test.false, c.loop-gate.auto.gate-index-end) in
    let all : IsReachedTo net inside c.args.source.0 order (length order) c.loop-gate.reached =
    subst (λ n. IsReachedTo net inside c.args.source.0 order n c.loop-gate.reached) past c.loop-gate.invariant in
    spread_inside net inside c.args.source c.requires.source (length c.loop-gate.reached.lines) c.loop-gate.reached
    (reached_all net c.sources.ensures.circuit inside c.args.source order c.order-gate-items.ensures.rank c.loop-gate.reached all)
