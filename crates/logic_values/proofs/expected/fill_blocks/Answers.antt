-- A block more is filled in; behind the last one all tests are.
use Rattle.std.proofs.Common.{◌∙◌, arith}
use Rattle.logic_values.proofs.Filling.{all_filled, one_block, still_fit}
use Rattle.logic_values.proofs.expected.fill_blocks.Goals as goal

pub loop-begin-preserved : goal.loop-begin-preserved
loop-begin-preserved c =
    let net = c.args.net.now in
    let turn = c.loop-begin.invariant in
    let end = c.block_end-end.result in
    let on = c.block_end-end.ensures.on in
    let within = c.block_end-end.ensures.within in
    let same = c.fill_block.auto.tests in
    record {
      within = omega arith;
      filled = one_block net c.loop-begin.begin end c.args.tests.now c.loop-begin.tests c.fill_block.new.tests (omega arith) turn.filled
          c.in_ok-fill_block.ensures;
      fit = still_fit net c.loop-begin.begin end c.loop-begin.tests c.fill_block.new.tests c.in_ok-fill_block.ensures same turn.fit;
      places = c.fill_block.auto.words ∙ turn.places;
      observed = c.fill_block.auto.observed ∙ turn.observed;
    }

pub returns : goal.returns
returns c =
    let turn = c.loop-begin.invariant in
    let last = c.loop-begin-test.false in
    let within = turn.within in
    let same = c.loop-begin.auto.tests in
    all_filled c.args.net.now c.loop-begin.begin c.args.tests.now c.loop-begin.tests turn.filled (omega arith)
