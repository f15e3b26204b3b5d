-- Where some links are to gates, each linked source gets the value of its line that stands among those of all lines.
use Rattle.std.proofs.Common.{ℕ, List, Bool, [], false, get_or, ap, subst, ◌∙◌}
use Rattle.pd_base.specs.Links.{LinkList}
use Rattle.netlist.specs.Values.{value}
use Rattle.state_laws.proofs.Linked.{linked_line}
use Rattle.cones.specs.FoundLines.{HasMark}
use Rattle.pair_judging.specs.SourceBits.{AreLinkBits}
use Rattle.pair_judging.proofs.LinkBits.{link_bits_as}
use Rattle.pair_judging.proofs.cone_judge.ConeJudge.give_link_bits.Goals as goal

pub returns-clause-linked : goal.returns-clause-linked
returns-clause-linked c =
    let net = c.args.net.now in
    let links = c.args.links.now in
    let first = c.args.first.now in
    let values = c.values.result.now in
    let Kept : ℕ → Type 0 = HasMark [] in
    subst (λ (old : List Bool). AreLinkBits (value net first) links Kept old c.write_links.new.second)
    (c.give_first_bits.ensures.kept c.if-give_first_bits.false)
    (link_bits_as (λ line. get_or values line false) (value net first) Kept Kept links c.give_first_bits.new.second c.write_links.new.second
    (λ source line link. ap (λ (bits : List Bool). get_or bits line false) c.values.ensures
    ∙ c.set.ensures.values line (linked_line net links c.requires.links source line link))
    (λ source. (λ is. is, λ is. is))
    (subst (λ (ls : LinkList). AreLinkBits (λ line. get_or values line false) ls Kept c.give_first_bits.new.second c.write_links.new.second)
    c.pairs.ensures c.write_links.ensures.linked))
