-- One flag more is set, by the mark of the source and its link.
use Rattle.std.proofs.Common.{◌≡◌, ⊎_elim, inl, inr, ℕ, true, arith}
use Rattle.pd_base.specs.Links.{IsLink}
use Rattle.netlist.specs.Circuit.{source_count}
use Rattle.hulls.specs.Awaiting.{is_inside}
use Rattle.implication.proofs.Inside.{none_flagged, flagged_more, all_set, none_linked_to}
use Rattle.implication.proofs.engine_cone.flag_told.Goals as goal

pub loop-source-init : goal.loop-source-init
loop-source-init c = none_flagged (source_count c.args.net.now) c.args.links.now c.args.told.now

pub loop-source-preserved : goal.loop-source-preserved
loop-source-preserved c =
    let net = c.args.net.now in let links = c.args.links.now in let told = c.loop-source.told in
    let source = c.loop-source.source in
    let free = none_linked_to links source c.line_of.result c.line_of.ensures.linked c.line_of.ensures.free in
    let Free : Type 0 = (line : ℕ) → ¬ IsLink links source line in
    flagged_more source (source_count net) links c.args.told.now told c.loop-source.invariant
    (omega (arith, c.requires)) (omega (arith, c.loop-source-test.true, c.sources-source-end.ensures.count)) c.is_told.result (
      λ up. ⊎_elim (λ (mark : is_inside told source ≡ true). inl mark) (λ none. inr (free.0 none)) (c.is_told.ensures.0 up),
      λ either. c.is_told.ensures.1 (⊎_elim (λ (mark : is_inside told source ≡ true). inl mark) (λ (not : Free). inr (free.1 not)) either),
    )

pub returns : goal.returns
returns c =
    all_set c.loop-source.source (source_count c.args.net.now) c.args.links.now c.args.told.now c.loop-source.told c.loop-source.invariant
    (omega (arith, c.loop-source-test.false, c.sources-source-end.ensures.count))
