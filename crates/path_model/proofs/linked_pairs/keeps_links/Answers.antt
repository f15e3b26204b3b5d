-- Each link is judged by the values that were computed.
use Rattle.std.proofs.Common.{◌≡◌, ◌<◌, ◌↔◌, ℕ, IsTrue, ap, subst, ◌∙◌, arith}
use Rattle.std.specs.List.{All}
use Rattle.netlist.specs.Circuit.{line_count}
use Rattle.netlist.specs.Values.{value}
use Rattle.logic_values.specs.Known.{bit_at}
use Rattle.path_model.proofs.LinkedPairs.{HasLinkBit, each_link_kept, kept_at_each_link}
use Rattle.path_model.proofs.linked_pairs.keeps_links.Goals as goal

pub returns : goal.returns
returns c =
    let net = c.args.net.now in
    let links = c.args.links.now.pairs in
    let pair = c.args.pair.now in
    let values = c.evaluate.new.out in
    let computed : (line : ℕ) → line < line_count net → bit_at values line ≡ value net pair.first line =
    λ line within. c.evaluate.ensures line (omega arith) ∙ ap (λ bits. value net bits line) c.first.ensures.bits in
    let judged : IsTrue c.has_link_bits.result ↔ All (HasLinkBit pair.second values) links =
    subst (λ bits. IsTrue c.has_link_bits.result ↔ All (HasLinkBit bits values) links) c.second.ensures.bits
    (subst (λ pairs. IsTrue c.has_link_bits.result ↔ All (HasLinkBit c.second.result.now values) pairs) c.pairs.ensures c.has_link_bits.ensures) in (
      λ is. each_link_kept net links c.requires.links pair values computed (judged.0 is),
      λ kept. judged.1 (kept_at_each_link net links c.requires.links pair values computed kept),
    )
