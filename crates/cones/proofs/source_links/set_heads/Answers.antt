-- The line of one link more.
use Rattle.std.proofs.Common.{Some, get_or, refl, arith, ◌∙◌}
use Rattle.std.proofs.lemmas.List.{length-set}
use Rattle.cones.proofs.SourceHeads.{no_link, heads_none, heads_more, heads_all}
use Rattle.cones.proofs.source_links.set_heads.Goals as goal

pub loop-link-init : goal.loop-link-init
loop-link-init c = record { places = refl; heads = heads_none c.args.heads.now c.requires.none }

pub loop-link-preserved : goal.loop-link-preserved
loop-link-preserved c =
    let links = c.args.links.now in let place = c.loop-link.link-index in let heads = c.loop-link.heads in
    record {
      places = length-set heads (get_or links place no_link).0.0 (Some (get_or links place no_link).1) ∙ c.loop-link.invariant.places;
      heads = heads_more links place heads c.loop-link-test.true
          (omega (arith, c.requires.sources place no_link c.loop-link-test.true, c.loop-link.invariant.places)) c.requires.once c.loop-link.invariant.heads;
    }

pub returns-clause-heads : goal.returns-clause-heads
returns-clause-heads c =
    heads_all c.args.links.now c.loop-link.link-index c.loop-link.heads c.loop-link-test.false c.loop-link.invariant.heads
