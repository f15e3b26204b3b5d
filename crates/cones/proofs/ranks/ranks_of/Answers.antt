-- There is a number for each gate, and they are the gates' places.
use Rattle.std.proofs.Common.{ℕ, ◌<◌, length, sym, ap, subst, ◌∙◌}
use Rattle.std.specs.List.{All}
use Rattle.std.proofs.lemmas.List.{length-replicate, with_items_is}
use Rattle.pd_base.specs.declared.ids.GateId.{GateId}
use Rattle.cones.specs.Ranks.{AreRanks}
use Rattle.cones.proofs.ranks.ranks_of.Goals as goal

pub rank_all-requires-clause-places : goal.rank_all-requires-clause-places
rank_all-requires-clause-places c =
    let many = ap length c.as_mut_slice.ensures.value ∙ ap length (c.in_ok-ranks.ensures.items_if_clones_equal (λ y same. same))
    ∙ length-replicate c.args.gates 0 in
    subst (λ (n : ℕ). All (λ (gate : GateId). gate.0 < n) c.args.order.now) (sym many) c.requires.places

pub returns-clause-one_each : goal.returns-clause-one_each
returns-clause-one_each c =
    let ranks = c.in_ok-ranks.ranks in
    let long = c.rank_all.ensures.one_each ∙ ap length c.as_mut_slice.ensures.value in
    ap length (with_items_is ranks c.rank_all.new.ranks (long ∙ sym ranks.ok.0)) ∙ long
    ∙ ap length (c.in_ok-ranks.ensures.items_if_clones_equal (λ y same. same)) ∙ length-replicate c.args.gates 0

pub returns-clause-ranks : goal.returns-clause-ranks
returns-clause-ranks c =
    let ranks = c.in_ok-ranks.ranks in
    let long = c.rank_all.ensures.one_each ∙ ap length c.as_mut_slice.ensures.value in
    subst (AreRanks c.args.order.now) (sym (with_items_is ranks c.rank_all.new.ranks (long ∙ sym ranks.ok.0))) c.rank_all.ensures.ranks
