-- The sources with marks are those of the cone.
use Rattle.std.proofs.Common.{refl, subst}
use Rattle.std.specs.Prelude.{Contains}
use Rattle.pd_base.specs.Links.{LinkList}
use Rattle.netlist.specs.Values.{value}
use Rattle.cones.specs.FoundLines.{HasMark}
use Rattle.pair_judging.specs.SourceBits.{AreLinkBits}
use Rattle.pair_judging.proofs.LinkBits.{link_bits_as}
use Rattle.pair_judging.proofs.source_bits.link_bits.Goals as goal

pub returns-clause-linked : goal.returns-clause-linked
returns-clause-linked c =
    let net = c.args.net.now in
    let cone = c.args.cone.now in
    let first = c.args.first.now in
    link_bits_as (value net first) (value net first) (HasMark c.marks.result.now)
    (λ source. Contains cone.found.lines (record { 0 = source })) cone.links c.args.second.now c.give_bits.new.second
    (λ source line link. refl)
    c.marks.ensures.exactly
    (subst (λ (links : LinkList). AreLinkBits (value net first) links (HasMark c.marks.result.now) c.args.second.now c.give_bits.new.second)
    c.links.ensures c.in_ok-give_bits.ensures.linked)
