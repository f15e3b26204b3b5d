-- The lines are evaluated in the lanes of the tests, and the words of the observed ones are taken.
use Rattle.logic_values.proofs.Filling.{observed_lanes}
use Rattle.logic_values.proofs.expected.observe_block.Goals as goal

pub returns : goal.returns
returns c =
    observed_lanes c.args.net.now c.args.begin c.args.end c.args.tests.now c.evaluate_block.new.words c.evaluate_block.ensures
    c.take_words.new.taken c.observed.result.now c.take_words.ensures c.observed.ensures.observed c.observed.ensures.in_circuit
