-- The assumptions are taken back one by one.
use Rattle.implication.proofs.GoingBack.{going_from, going_on, went_back}
use Rattle.implication.proofs.engine.Engine.back_to.Goals as goal

pub loop-self-init : goal.loop-self-init
loop-self-init g c = going_from c.args.self.now c.args.mark

pub loop-self-preserved : goal.loop-self-preserved
loop-self-preserved g c =
    going_on c.args.self.now c.loop-self.self c.take_back.new.self c.args.mark c.mark.result c.loop-self.invariant c.mark.ensures
    c.loop-self-test.true c.take_back.ensures

pub returns : goal.returns
returns g c =
    went_back c.args.self.now c.loop-self.self c.args.mark c.mark.result c.loop-self.invariant c.mark.ensures c.loop-self-test.false
