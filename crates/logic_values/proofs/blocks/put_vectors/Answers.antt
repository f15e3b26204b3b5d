-- The vector of one test more stands in its lane.
use Rattle.std.proofs.Common.{Bool, List, get_or, subst, ◌-◌, ◌∙◌, arith}
use Rattle.std.proofs.lemmas.Option.{slice_get-get_or}
use Rattle.logic_values.specs.Lanes.{IsInLane}
use Rattle.logic_values.proofs.LaneBlocks.{one_more_lane}
use Rattle.logic_values.proofs.blocks.put_vectors.Goals as goal

pub loop-place-preserved : goal.loop-place-preserved
loop-place-preserved c =
    let tests = c.args.tests.now in
    let place = c.loop-place.place in
    let own = get_or tests place c.index-tests-place.result in
    let from = c.loop-place.auto.place in
    let last = c.loop-place-test.true in
    let few = c.requires.few in
    let within = c.requires.within in
    let InLane : List Bool → Type 0 = λ vector. IsInLane c.put_into_lane.new.words (place - c.args.begin) vector in
    record {
      lanes = one_more_lane c.args.which c.args.begin place tests c.loop-place.words c.put_into_lane.new.words from (omega arith) own
          (slice_get-get_or tests place c.index-tests-place.result (omega arith)) c.loop-place.invariant.lanes
          (subst InLane c.vector_of-vector.ensures c.put_into_lane.ensures.there) c.put_into_lane.ensures.others;
      places = c.put_into_lane.auto.words ∙ c.loop-place.invariant.places;
    }
