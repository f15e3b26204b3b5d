-- A link that is passed over is to a source; where none is left, all are.
use Rattle.std.proofs.Common.{◌<◌, subst, arith}
use Rattle.std.specs.List.{All}
use Rattle.std.proofs.lemmas.List.{take_all}
use Rattle.std.proofs.lemmas.List.Elements.{All-more}
use Rattle.pd_base.specs.Links.{LinkList}
use Rattle.pd_base.specs.declared.ids.LineId.{LineId}
use Rattle.cones.proofs.SourceHeads.{no_link}
use Rattle.pair_judging.proofs.source_bits.are_sources.Goals as goal

pub loop-link-preserved : goal.loop-link-preserved
loop-link-preserved c =
    All-more (λ (link : LineId × LineId). link.1.0 < c.args.sources) c.args.links.now c.loop-link.link-index no_link c.loop-link-test.true
    c.loop-link.invariant (omega arith)

pub returns : goal.returns
returns c = λ yes.
    let P : LinkList → Type 0 = λ xs. All (λ link. link.1.0 < c.args.sources) xs in
    subst P (take_all c.loop-link.link-index c.args.links.now c.loop-link-test.false) c.loop-link.invariant
