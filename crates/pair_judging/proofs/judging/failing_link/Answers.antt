-- The link of one source more passes.
use Rattle.pair_judging.proofs.LinkedStates.{pass_none, pass_more, pass_all}
use Rattle.pair_judging.proofs.judging.failing_link.Goals as goal

pub loop-source-init : goal.loop-source-init
loop-source-init g c = pass_none g.A.Algebra.algebra c.args.links.now c.args.states.now

pub loop-source-preserved : goal.loop-source-preserved
loop-source-preserved g c =
    pass_more g.A.Algebra.algebra c.args.links.now c.args.states.now c.args.sources.now c.loop-source.source-index c.loop-source-test.true
    c.loop-source.invariant c.in_default.ensures.passes

pub returns : goal.returns
returns g c =
    pass_all g.A.Algebra.algebra c.args.links.now c.args.states.now c.args.sources.now c.loop-source.source-index c.loop-source-test.false
    c.loop-source.invariant
