-- One link more.
use Rattle.std.proofs.Common.{◌<◌, ◌+◌, ℕ, Bool, false, take, length, get_or, refl, sym, ap, subst, ◌∙◌, arith}
use Rattle.std.proofs.lemmas.Bool.{false≢true}
use Rattle.std.proofs.lemmas.List.{length-set}
use Rattle.cones.specs.FoundLines.{HasMark}
use Rattle.pair_judging.specs.SourceBits.{AreLinkBits}
use Rattle.cones.proofs.SourceHeads.{no_link}
use Rattle.pair_judging.proofs.LinkBits.{link_bits_none, link_bits_kept, link_bits_more, link_bits_all}
use Rattle.pair_judging.proofs.source_bits.write_links.Goals.{then-not-kept, else-not-kept}
use Rattle.pair_judging.proofs.source_bits.write_links.Goals as goal

pub loop-link-init : goal.loop-link-init
loop-link-init c = record {
  places = refl;
  linked = link_bits_none (λ line. get_or c.args.values.now line false) (HasMark c.args.marks.now) c.args.second.now;
}

pub loop-link-preserved : goal.loop-link-preserved
loop-link-preserved c =
    let links = c.args.links.now in
    let place = c.loop-link.link-index in
    let second = c.loop-link.second in
    let values = c.args.values.now in
    let marks = c.args.marks.now in
    let source = (get_or links place no_link).0.0 in
    let due : ℕ → Bool = λ line. get_or values line false in
    let inside = c.loop-link-test.true in
    let long : source < length second = omega (arith, c.requires.second place no_link inside, c.loop-link.invariant.places) in
    elim c.if-not-kept.branch [
      | then-not-kept w ↦ record {
        places = ap length w.second-is ∙ length-set second source (due (get_or links place no_link).1.0) ∙ c.loop-link.invariant.places;
        linked = subst (AreLinkBits due (take (place + 1) links) (HasMark marks) c.args.second.now) (sym w.second-is)
            (link_bits_more due (HasMark marks) c.args.second.now links place inside second c.loop-link.invariant.linked c.requires.once long
            (λ marked. false≢true (sym w.if-not-kept.true ∙ c.is_marked-kept.ensures ∙ marked)));
      }
      | else-not-kept w ↦ record {
        places = ap length w.second-is ∙ c.loop-link.invariant.places;
        linked = subst (AreLinkBits due (take (place + 1) links) (HasMark marks) c.args.second.now) (sym w.second-is)
            (link_bits_kept due (HasMark marks) c.args.second.now links place inside second c.loop-link.invariant.linked (sym c.is_marked-kept.ensures ∙ w.if-not-kept.false));
      }
    ]

pub returns-clause-linked : goal.returns-clause-linked
returns-clause-linked c =
    link_bits_all (λ line. get_or c.args.values.now line false) (HasMark c.args.marks.now) c.args.second.now c.args.links.now
    c.loop-link.link-index c.loop-link.second c.loop-link-test.false c.loop-link.invariant.linked
