-- The vectors stand in their lanes, and the lines are evaluated in each of them.
use Rattle.logic_values.proofs.LaneBlocks.{block_values}
use Rattle.logic_values.proofs.blocks.evaluate_block.Goals as goal

pub returns : goal.returns
returns c =
    block_values c.args.net.now c.args.which c.args.begin c.args.end c.args.tests.now c.requires.few c.requires.bits c.put_vectors.new.words
    c.evaluate_lanes.new.words c.put_vectors.ensures c.evaluate_lanes.ensures
