-- The pair of one test more stands in its lane.
use Rattle.std.proofs.Common.{Bool, List, get_or, subst, ◌-◌, ◌∙◌, arith}
use Rattle.std.proofs.lemmas.Option.{slice_get-get_or}
use Rattle.logic_values.specs.Lanes.{IsInLane}
use Rattle.test_grade.proofs.Blocks.{one_more_lane}
use Rattle.test_grade.proofs.pair_lanes.put_pairs.Goals as goal

pub loop-place-preserved : goal.loop-place-preserved
loop-place-preserved c =
    let tests = c.args.tests.now in
    let place = c.loop-place.place in
    let own = get_or tests place c.index-tests-place.result in
    let from = c.loop-place.auto.place in
    let last = c.loop-place-test.true in
    let few = c.requires.few in
    let within = c.requires.within in
    let turn = c.loop-place.invariant in
    let InFinals : List Bool → Type 0 = λ vector. IsInLane c.put_into_lane.new.words (place - c.args.begin) vector in
    let InSteadies : List Bool → Type 0 = λ vector. IsInLane c.put_into_lane-in-loop-place.new.words (place - c.args.begin) vector in
    record {
      seconds = one_more_lane (λ pair. pair.second) c.args.begin place tests c.loop-place.finals c.put_into_lane.new.words from (omega arith) own
          (slice_get-get_or tests place c.index-tests-place.result (omega arith)) turn.seconds
          (subst InFinals c.second.ensures.bits c.put_into_lane.ensures.there) c.put_into_lane.ensures.others;
      firsts = one_more_lane (λ pair. pair.first) c.args.begin place tests c.loop-place.steadies c.put_into_lane-in-loop-place.new.words from (omega arith) own
          (slice_get-get_or tests place c.index-tests-place.result (omega arith)) turn.firsts
          (subst InSteadies c.first.ensures.bits c.put_into_lane-in-loop-place.ensures.there) c.put_into_lane-in-loop-place.ensures.others;
      finals = c.put_into_lane.auto.words ∙ turn.finals;
      steadies = c.put_into_lane-in-loop-place.auto.words ∙ turn.steadies;
    }
