-- Which numbers the links of a circuit have.
use Rattle.std.proofs.Common.{ℕ, ◌<◌, [], arith}
use Rattle.std.proofs.lemmas.List.Elements.{All-contains}
use Rattle.pd_base.specs.declared.ids.LineId.{LineId}
use Rattle.pd_base.specs.Links.{LinkList, IsLink}
use Rattle.netlist.specs.Circuit.{Circuit, source_count, line_count}
use Rattle.netlist.specs.LinkedPairs.{AreLinksOf}

-- no source is linked where there are no links
pub none_linked : (source line : ℕ) → ¬ IsLink [] source line
none_linked source line link = absurd (omega (arith, link.1))

module _ (c : Circuit) (links : LinkList) (of : AreLinksOf c links) (source line : ℕ) (link : IsLink links source line) where
  pub linked_source : source < source_count c
  linked_source = All-contains (λ (l : LineId × LineId). l.0.0 < source_count c) links (record { 0 = source }, record { 0 = line }) of.sources link

  pub linked_line : line < line_count c
  linked_line = All-contains (λ (l : LineId × LineId). l.1.0 < line_count c) links (record { 0 = source }, record { 0 = line }) of.lines link
