-- Where all links are to sources, each linked source without a mark gets the bit of that source.
use Rattle.std.proofs.Common.{◌<◌, ℕ, false, get_or, sym, subst, subst₂}
use Rattle.std.specs.List.{All}
use Rattle.std.proofs.lemmas.List.Elements.{All-contains}
use Rattle.pd_base.specs.Links.{LinkList}
use Rattle.pd_base.specs.declared.ids.LineId.{LineId}
use Rattle.netlist.specs.Circuit.{source_count, kind_at}
use Rattle.netlist.specs.Values.{bit_of, gate_value, value}
use Rattle.netlist.proofs.Evaluation.{value_at_source}
use Rattle.cones.specs.FoundLines.{HasMark}
use Rattle.pair_judging.specs.SourceBits.{AreLinkBits}
use Rattle.pair_judging.proofs.LinkBits.{link_bits_as}
use Rattle.pair_judging.proofs.source_bits.give_first_bits.Goals as goal

pub returns-clause-linked : goal.returns-clause-linked
returns-clause-linked c = λ yes.
    let net = c.args.net.now in
    let links = c.args.links.now in
    let first = c.args.first.now in
    let lines : All (λ (l : LineId × LineId). l.1.0 < source_count net) links =
    subst₂ (λ (n : ℕ) (ls : LinkList). All (λ (l : LineId × LineId). l.1.0 < n) ls) c.sources.ensures.count c.pairs.ensures
    (c.are_sources.ensures c.if-not-are_sources.false) in
    link_bits_as (λ line. get_or first line false) (value net first) (HasMark c.args.marks.now) (HasMark c.args.marks.now) links c.args.second.now
    c.write_links.new.second
    (λ source line link.
    sym (value_at_source net (bit_of first) (λ gate values. gate_value (kind_at net gate) values) line
    (All-contains (λ (l : LineId × LineId). l.1.0 < source_count net) links (record { 0 = source }, record { 0 = line }) lines link)))
    (λ source. (λ is. is, λ is. is))
    (subst (λ (ls : LinkList). AreLinkBits (λ line. get_or first line false) ls (HasMark c.args.marks.now) c.args.second.now c.write_links.new.second)
    c.pairs-2.ensures c.write_links.ensures.linked)
