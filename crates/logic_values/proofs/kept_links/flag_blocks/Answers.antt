-- A block more is flagged; behind the last one all tests are.
use Rattle.std.proofs.Common.{◌-◌, ◌∙◌, arith}
use Rattle.netlist.specs.LinkedPairs.{KeepsLinks}
use Rattle.logic_values.specs.KeptLinks.{HasLinkBits}
use Rattle.logic_values.proofs.Flagging.{all_flagged, block_flagged}
use Rattle.logic_values.proofs.KeptLinks.{kept_in_lane}
use Rattle.logic_values.proofs.kept_links.flag_blocks.Goals as goal

pub loop-begin-preserved : goal.loop-begin-preserved
loop-begin-preserved c =
    let turn = c.loop-begin.invariant in
    let begin = c.loop-begin.begin in
    let within = c.block_end-end.ensures.within in
    let net = c.args.net.now in
    let links = c.args.links.now in
    let words = c.evaluate_block.new.words in
    record {
      within = omega arith;
      told = block_flagged (λ test. KeepsLinks net links test.pair) (λ lane test. HasLinkBits links test.pair.second words lane) begin
          c.block_end-end.result c.args.tests.now c.loop-begin.flags c.flag_block.new.flags
          (λ place test from last is.
          kept_in_lane net links c.requires.links test.pair words (place - begin) (c.evaluate_block.ensures place test from last is))
          c.flag_block.ensures turn.told;
      flags = c.flag_block.auto.flags ∙ turn.flags;
      places = c.evaluate_block.auto.words ∙ turn.places;
    }

pub returns : goal.returns
returns c =
    let turn = c.loop-begin.invariant in
    let last = c.loop-begin-test.false in
    all_flagged (λ test. KeepsLinks c.args.net.now c.args.links.now test.pair) c.loop-begin.begin c.args.tests.now c.loop-begin.flags
    (omega arith) turn.flags turn.told
