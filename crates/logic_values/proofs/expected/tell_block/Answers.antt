-- One test more is compared.
use Rattle.std.proofs.Common.{◌≡◌, ◌↔◌, ◌-◌, Bool, List, get_or, map, subst, ◌∙◌, arith}
use Rattle.std.specs.Prelude.{IsTrue}
use Rattle.std.proofs.lemmas.List.{length-set}
use Rattle.std.proofs.lemmas.Option.{slice_get-get_or}
use Rattle.pd_base.specs.declared.test.Test.{Test}
use Rattle.logic_values.specs.Lanes.{lane_of}
use Rattle.logic_values.proofs.Flagging.{none_flagged, one_flagged}
use Rattle.logic_values.proofs.expected.tell_block.Goals as goal

pub loop-place-init : goal.loop-place-init
loop-place-init c = record {
  compared = none_flagged (λ lane test. test.expected ≡ map (λ word. lane_of word lane) c.args.observed.now) c.args.begin c.args.tests.now
      c.args.flags.now;
  places = c.requires.flags;
}

pub loop-place-preserved : goal.loop-place-preserved
loop-place-preserved c =
    let tests = c.args.tests.now in
    let place = c.loop-place.place in
    let turn = c.loop-place.invariant in
    let own : Test = get_or tests place c.index-tests-place.result in
    let flag = c.are_bits_in_lane.result in
    let last = c.loop-place-test.true in
    let within = c.requires.within in
    record {
      compared = one_flagged (λ lane test. test.expected ≡ map (λ word. lane_of word lane) c.args.observed.now) c.args.begin place tests
          c.args.flags.now c.loop-place.flags own flag c.loop-place.auto.place (let same = turn.places in omega arith)
          (slice_get-get_or tests place c.index-tests-place.result (omega arith))
          (subst (λ (bits : List Bool). IsTrue flag ↔ (bits ≡ map (λ word. lane_of word (place - c.args.begin)) c.args.observed.now))
          c.as_slice-bits.ensures c.are_bits_in_lane.ensures)
          turn.compared;
      places = length-set c.loop-place.flags place flag ∙ turn.places;
    }
