-- A circuit has few links: no source has two, so there are no more than sources.
use Rattle.std.proofs.Common.{ℕ, ◌+◌, ◌<◌, ◌≤◌, ◌^◌, length, ap, arith}
use Rattle.pd_base.specs.declared.ids.LineId.{LineId}
use Rattle.pd_base.specs.Links.{LinkList}
use Rattle.netlist.specs.Circuit.{Circuit, source_count, gate_count}
use Rattle.netlist.specs.Lawful.{IsCircuit}
use Rattle.netlist.specs.LinkedPairs.{AreLinksOf}
use Rattle.path_laws.proofs.Numbered.{few_by_number}

pub few_links : (c : Circuit) (links : LinkList) → AreLinksOf c links → length links ≤ source_count c
few_links c links of =
    few_by_number (λ (l : LineId × LineId). l.0.0) (record { 0 = 0 }, record { 0 = 0 }) links (source_count c)
    (λ i j d before within same. of.once i j d before within (ap (λ (n : ℕ). let line : LineId = record { 0 = n } in line) same)) of.sources

-- gates and links together are few enough to be numbered one behind the other
pub few_gates_and_links : (c : Circuit) → IsCircuit c → (links : LinkList) → AreLinksOf c links → gate_count c + length links < 2 ^ 31
few_gates_and_links c circuit links of = let few = few_links c links of in omega (arith, few, circuit.few_lines)
