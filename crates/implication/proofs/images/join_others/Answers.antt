-- The first set at first, then one line more in each turn.
use Rattle.implication.proofs.Joining.{joined_first, joined_more, joined_all}
use Rattle.implication.proofs.images.join_others.Goals as goal

pub loop-line-init : goal.loop-line-init
loop-line-init g c =
    joined_first g.A.Algebra.algebra g.met.A.Algebra.laws c.args.op c.args.labels.now c.args.first c.args.others.now c.requires.first

pub loop-line-preserved : goal.loop-line-preserved
loop-line-preserved g c =
    joined_more g.A.Algebra.algebra g.met.A.Algebra.laws c.args.op c.args.labels.now c.args.first c.args.others.now c.loop-line.line-index
    (record { 0 = 0 }) c.loop-line-test.true c.loop-line.joined c.join_sets-joined.result c.loop-line.invariant
    c.join_sets-joined.ensures.within c.join_sets-joined.ensures.joins

pub returns-clause-folds : goal.returns-clause-folds
returns-clause-folds g c =
    joined_all g.A.Algebra.algebra g.met.A.Algebra.laws c.args.op c.args.labels.now c.args.first c.args.others.now c.loop-line.line-index
    c.loop-line-test.false c.loop-line.joined c.loop-line.invariant
