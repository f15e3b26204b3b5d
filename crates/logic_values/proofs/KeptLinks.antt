-- A pair keeps links exactly where each link, one by one, has its bits in a lane in which the lines have their values under the first vector.
use Rattle.std.proofs.Common.{◌≡◌, ◌↔◌, ℕ, ◌<◌, List, get_or, sym, ◌∙◌}
use Rattle.std.proofs.lemmas.List.{get_or_default}
use Rattle.std.proofs.lemmas.List.Elements.{All-contains}
use Rattle.pd_base.specs.declared.ids.LineId.{LineId}
use Rattle.pd_base.specs.Links.{LinkList}
use Rattle.pd_base.specs.Pair.{Vectors}
use Rattle.netlist.specs.Circuit.{Circuit, line_count}
use Rattle.netlist.specs.LinkedPairs.{AreLinksOf, KeepsLinks}
use Rattle.netlist.specs.Values.{bit_of, value}
use Rattle.logic_values.specs.KeptLinks.{HasLinkBits}
use Rattle.logic_values.specs.Lanes.{lane_bit}

pub kept_in_lane : (c : Circuit) (links : LinkList) → AreLinksOf c links → (pair : Vectors) (words : List ℕ) (lane : ℕ)
    → ((line : ℕ) → line < line_count c → lane_bit words lane line ≡ value c pair.first line)
    → HasLinkBits links pair.second words lane ↔ KeepsLinks c links pair
kept_in_lane c links are pair words lane values = (kept, bits)
  where
    kept : HasLinkBits links pair.second words lane → KeepsLinks c links pair
    kept all source line among =
        All-contains (λ (link : LineId × LineId). bit_of pair.second link.0.0 ≡ lane_bit words lane link.1.0) links
        (record { 0 = source }, record { 0 = line }) all among
        ∙ values line
        (All-contains (λ (link : LineId × LineId). link.1.0 < line_count c) links (record { 0 = source }, record { 0 = line }) are.lines among)

    bits : KeepsLinks c links pair → HasLinkBits links pair.second words lane
    bits keeps at d within =
        let link = get_or links at d in
        keeps link.0.0 link.1.0 (at, within, get_or_default links at link d within) ∙ sym (values link.1.0 (are.lines at d within))
