-- Each gate is given its place, which no later one changes.
use Rattle.std.proofs.Common.{◌∙◌, arith}
use Rattle.std.proofs.lemmas.List.{length-set}
use Rattle.cones.specs.Ranks.{ranked_gate}
use Rattle.cones.proofs.RankPlaces.{ranks_more}
use Rattle.cones.proofs.ranks.rank_all.Goals as goal

pub loop-place-preserved : goal.loop-place-preserved
loop-place-preserved c =
    let order = c.args.order.now in
    let place = c.loop-place.place in
    let within = c.requires.places place (record { 0 = 0 }) c.loop-place-test.true in
    record {
      one_each = length-set c.loop-place.ranks (ranked_gate order place).0 place ∙ c.loop-place.invariant.one_each;
      ranked = ranks_more order c.loop-place.ranks place c.loop-place-test.true (omega (arith, within, c.loop-place.invariant.one_each))
          c.requires.once c.loop-place.invariant.ranked;
    }

pub returns-clause-ranks : goal.returns-clause-ranks
returns-clause-ranks c = record {
  each = λ place inside. c.loop-place.invariant.ranked place (omega (arith, inside, c.loop-place-test.false));
}
