-- The flip-flops of a circuit as links of it; and that a pair keeps links exactly where each link, one by one, has its bits.
use Rattle.std.proofs.Common.{◌≡◌, ℕ, ◌+◌, ◌-◌, ◌<◌, Bool, List, length, get_or, sym, ap, ◌∙◌, arith}
use Rattle.std.specs.List.{All}
use Rattle.std.proofs.lemmas.List.{get_or-map, get_or_default}
use Rattle.std.proofs.lemmas.List.FromFn.{get_or-range_with_len}
use Rattle.std.proofs.lemmas.List.Elements.{All-contains}
use Rattle.pd_base.specs.declared.ids.LineId.{LineId}
use Rattle.pd_base.specs.Links.{LinkList}
use Rattle.pd_base.specs.Pair.{Vectors}
use Rattle.netlist.specs.Circuit.{Circuit, line_count, source_count}
use Rattle.netlist.specs.Lawful.{IsCircuit}
use Rattle.netlist.specs.LinkedPairs.{AreLinksOf, KeepsLinks}
use Rattle.netlist.specs.Values.{bit_of, value}
use Rattle.netlist.proofs.CircuitLines.{flops_are_sources, data_lines_in_circuit}
use Rattle.logic_values.specs.Known.{bit_at}

-- each flip-flop linked to its data line: the links are of the circuit
pub flops_are_links : (c : Circuit) → IsCircuit c → AreLinksOf c c.flops
flops_are_links c circuit = record {
  sources = flops_are_sources c circuit;
  lines = data_lines_in_circuit c circuit;
  once = λ earlier later d before within same.
      let first = source_count c - length c.flops in
      let own : (at : ℕ) → at < length c.flops → (get_or c.flops at d).0.0 ≡ first + at =
      λ at inside. sym (get_or-map (λ (flop : LineId × LineId). flop.0.0) c.flops at d 0 inside)
      ∙ ap (λ numbers. get_or numbers at 0) circuit.flops ∙ get_or-range_with_len first (length c.flops) at 0 inside in
      let numbers : first + earlier ≡ first + later =
      sym (own earlier (omega arith)) ∙ ap (λ (line : LineId). line.0) same ∙ own later within in
      omega (arith, numbers, before);
}

-- a link whose source has, in the second vector, the value that was computed for its line
abbrev pub HasLinkBit : List Bool → List Bool → LineId × LineId → Type 0
HasLinkBit vector values link = bit_of vector link.0.0 ≡ bit_at values link.1.0

module _ (c : Circuit) (links : LinkList) (are : AreLinksOf c links) (pair : Vectors) (values : List Bool)
    (computed : (line : ℕ) → line < line_count c → bit_at values line ≡ value c pair.first line) where
  pub each_link_kept : All (HasLinkBit pair.second values) links → KeepsLinks c links pair
  each_link_kept all source line among =
      All-contains (HasLinkBit pair.second values) links (record { 0 = source }, record { 0 = line }) all among
      ∙ computed line (All-contains (λ (link : LineId × LineId). link.1.0 < line_count c) links (record { 0 = source }, record { 0 = line })
      are.lines among)

  pub kept_at_each_link : KeepsLinks c links pair → All (HasLinkBit pair.second values) links
  kept_at_each_link keeps at d within =
      let link = get_or links at d in
      keeps link.0.0 link.1.0 (at, within, get_or_default links at link d within)
      ∙ sym (computed link.1.0 (are.lines at d within))
