-- A pair of a circuit has bits for all flip-flops of its scan chains.
use Rattle.std.proofs.Common.{◌≡◌, ◌<◌, ℕ, List, All, get_or, length, sym, subst}
use Rattle.pd_base.specs.Pair.{Vectors}
use Rattle.pd_base.specs.declared.ids.LineId.{LineId}
use Rattle.netlist.specs.Circuit.{Circuit, source_count}
use Rattle.netlist.specs.Lawful.{IsCircuit}
use Rattle.scan_order.specs.Chains.{AreChainsOf}
use Rattle.scan_order.proofs.CircuitChains.{sources_in_each}

pub have_bits : (c : Circuit) (chains : List (List LineId)) (pair : Vectors) → IsCircuit c → AreChainsOf c chains
    → length pair.first ≡ source_count c → All (λ chain. All (λ line. line.0 < length pair.first) chain) chains
have_bits c chains pair is are bits place d within at line inside =
    subst (λ (n : ℕ). (get_or (get_or chains place d) at line).0 < n) (sym bits) (sources_in_each c is chains are place d within at line inside)
