-- There are words for all blocks.
use Rattle.std.proofs.Common.{◌≡◌, ◌*◌, ◌/◌, length, arith}
use Rattle.test_grade.proofs.Blocks.{block_below}
use Rattle.test_grade.proofs.matrix.grade.Goals as goal

pub returns-clause-places : goal.returns-clause-places
returns-clause-places c test fault within inside =
    let below = block_below (test / 64) c.blocks_of-blocks.result (2 * length c.args.paths.now) fault (omega arith) inside in
    let long : length c.in_ok-words.words.items ≡ c.in_ok-count.count = c.in_ok-words.ensures.count in
    let count : c.in_ok-count.count ≡ c.blocks_of-blocks.result * (2 * length c.args.paths.now) = c.in_ok-count.ensures in
    omega arith
