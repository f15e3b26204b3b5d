-- One test more has the bits of its lane.
use Rattle.std.proofs.Common.{◌∙◌}
use Rattle.logic_values.proofs.Filling.{filled_in_lane}
use Rattle.logic_values.proofs.expected.fill_block.Goals as goal

pub loop-place-preserved : goal.loop-place-preserved
loop-place-preserved c =
    filled_in_lane c.args.net.now c.args.begin c.args.end c.loop-place.place c.args.tests.now c.loop-place.tests
    (c.loop-place.auto.place) c.loop-place-test.true c.requires.within c.observe_block.new.observed c.observe_block.ensures
    c.loop-place.invariant c.index-tests-place.result c.new.result (c.new.ensures ∙ c.in_ok-bits.ensures)
