-- No gate stands twice in rank order, and each has its place.
use Rattle.std.proofs.Common.{◌≢◌, List, sym, subst, ◌∙◌}
use Rattle.std.specs.List.{AllPairs}
use Rattle.pd_base.specs.declared.ids.GateId.{GateId}
use Rattle.netlist.specs.Levels.{IsRankOrder, ReadsEarlier}
use Rattle.cones.specs.Ranks.{AreRanks}
use Rattle.cones.proofs.RankPlaces.{ranked_apart}
use Rattle.pair_judging.proofs.ranked_gates.RankedGates.new.Goals as goal

pub ranks_of-requires-clause-once : goal.ranks_of-requires-clause-once
ranks_of-requires-clause-once c =
    subst (AllPairs (λ (a b : GateId). a.0 ≢ b.0)) (sym (c.as_slice.ensures.value ∙ c.in_ok-order.ensures.items))
    (ranked_apart c.args.net.now c.order.result.now c.order.ensures.rank)

pub returns : goal.returns
returns c =
    let net = c.args.net.now in
    let same = sym c.in_ok-order.ensures.items in
    let places = c.in_ok-places.places.items in
    record {
      ordered = subst (IsRankOrder net) same c.order.ensures.rank;
      earlier = subst (ReadsEarlier net) same c.order.ensures.reads;
      one_each = c.in_ok-places.ensures.one_each ∙ c.gates.ensures;
      ranks = subst (λ (gs : List GateId). AreRanks gs places) c.as_slice.ensures.value c.in_ok-places.ensures.ranks;
    }
