-- A block more is told of; behind the last one all tests are.
use Rattle.std.proofs.Common.{◌≡◌, map, sym, ◌∙◌, arith}
use Rattle.netlist.specs.Values.{observed_values}
use Rattle.logic_values.specs.Lanes.{lane_of}
use Rattle.logic_values.proofs.Flagging.{all_flagged, block_flagged}
use Rattle.logic_values.proofs.expected.tell_blocks.Goals as goal

pub loop-begin-preserved : goal.loop-begin-preserved
loop-begin-preserved c =
    let turn = c.loop-begin.invariant in
    let end = c.block_end-end.result in
    let within = c.block_end-end.ensures.within in
    let observed = c.observe_block.new.observed in
    let net = c.args.net.now in
    record {
      within = omega arith;
      told = block_flagged (λ test. test.expected ≡ observed_values net test.pair.second)
          (λ lane test. test.expected ≡ map (λ word. lane_of word lane) observed) c.loop-begin.begin end c.args.tests.now c.loop-begin.flags
          c.tell_block.new.flags
          (λ place test from last is.
          let are = c.observe_block.ensures place test from last is in (λ expects. expects ∙ are, λ expects. expects ∙ sym are))
          c.tell_block.ensures turn.told;
      flags = c.tell_block.auto.flags ∙ turn.flags;
      places = c.observe_block.auto.words ∙ turn.places;
      observed = c.observe_block.auto.observed ∙ turn.observed;
    }

pub returns : goal.returns
returns c =
    let turn = c.loop-begin.invariant in
    let last = c.loop-begin-test.false in
    all_flagged (λ test. test.expected ≡ observed_values c.args.net.now test.pair.second) c.loop-begin.begin c.args.tests.now c.loop-begin.flags
    (omega arith) turn.flags turn.told
