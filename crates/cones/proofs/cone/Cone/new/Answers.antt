-- No gate stands twice in rank order.
use Rattle.std.proofs.Common.{◌≢◌, sym, subst, ◌∙◌}
use Rattle.std.specs.List.{AllPairs}
use Rattle.pd_base.specs.declared.ids.GateId.{GateId}
use Rattle.cones.proofs.RankPlaces.{ranked_apart}
use Rattle.cones.proofs.cone.Cone.new.Goals as goal

pub ranks_of-requires-clause-once : goal.ranks_of-requires-clause-once
ranks_of-requires-clause-once c =
    subst (AllPairs (λ (a b : GateId). a.0 ≢ b.0)) (sym (c.as_slice.ensures.value ∙ c.in_ok-order.ensures.items))
    (ranked_apart c.args.net.now c.order.result.now c.order.ensures.rank)
