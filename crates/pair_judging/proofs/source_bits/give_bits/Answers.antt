-- Where some links are to gates, each linked source without a mark gets the value that is computed of its line.
use Rattle.std.proofs.Common.{◌≡◌, ◌<◌, ℕ, Bool, List, false, length, get_or, sym, ap, subst, ◌∙◌, arith}
use Rattle.std.proofs.lemmas.List.{with_items_is}
use Rattle.pd_base.specs.Links.{LinkList}
use Rattle.netlist.specs.Circuit.{line_count}
use Rattle.netlist.specs.Values.{value}
use Rattle.state_laws.proofs.Linked.{linked_line}
use Rattle.cones.specs.FoundLines.{HasMark}
use Rattle.pair_judging.specs.SourceBits.{AreLinkBits}
use Rattle.pair_judging.proofs.LinkBits.{link_bits_as}
use Rattle.pair_judging.proofs.source_bits.give_bits.Goals as goal

pub returns-clause-linked : goal.returns-clause-linked
returns-clause-linked c =
    let net = c.args.net.now in
    let links = c.args.links.now in
    let first = c.args.first.now in
    let values = c.as_slice.result.now in
    let Kept : ℕ → Type 0 = HasMark c.args.marks.now in
    subst (λ (old : List Bool). AreLinkBits (value net first) links Kept old c.write_links.new.second)
    (c.give_first_bits.ensures.kept c.if-give_first_bits.false)
    (link_bits_as (λ line. get_or values line false) (value net first) Kept Kept links c.give_first_bits.new.second
    c.write_links.new.second
    (λ source line link.
    let below : line < line_count net = linked_line net links c.requires.links source line link in
    let long : length c.evaluate.new.out ≡ c.in_ok-values.values.len =
    c.evaluate.auto.out ∙ ap length c.as_mut_slice.ensures.value ∙ sym c.in_ok-values.values.ok.0 in
    ap (λ (bits : List Bool). get_or bits line false) (c.as_slice.ensures.value ∙ with_items_is c.in_ok-values.values c.evaluate.new.out long)
    ∙ c.evaluate.ensures line (omega (arith, below, long, c.in_ok-values.ensures.len, c.lines.ensures.count)))
    (λ source. (λ is. is, λ is. is))
    (subst (λ (ls : LinkList). AreLinkBits (λ line. get_or values line false) ls Kept c.give_first_bits.new.second c.write_links.new.second)
    c.pairs.ensures c.write_links.ensures.linked))
