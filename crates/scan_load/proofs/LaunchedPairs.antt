-- A pair keeps the links of a circuit's chains exactly where the last shift launches it in each of them.
use Rattle.std.proofs.Common.{◌≡◌, ◌<◌, ◌∙◌, ℕ, List, [], ◌∷◌, ◌++◌, get_or, sym}
use Rattle.std.specs.List.{All, AllByRecursion}
use Rattle.std.proofs.lemmas.List.{get_or_default}
use Rattle.std.proofs.lemmas.List.Elements.{All-contains, All-from_recursion, recursion_from_All}
use Rattle.pd_base.specs.Links.{LinkList}
use Rattle.pd_base.specs.Pair.{Vectors}
use Rattle.pd_base.specs.declared.ids.LineId.{LineId}
use Rattle.netlist.specs.Circuit.{Circuit, kind_at, source_count}
use Rattle.netlist.specs.Lawful.{IsCircuit}
use Rattle.netlist.specs.LinkedPairs.{KeepsLinks}
use Rattle.netlist.specs.Values.{bit_of, gate_value, value}
use Rattle.netlist.proofs.Evaluation.{value_at_source}
use Rattle.scan_order.specs.Chains.{AreChainsOf}
use Rattle.scan_order.specs.SkewedLinks.{links_along, links_of_chains}
use Rattle.scan_order.proofs.CircuitChains.{links_are_sources}
use Rattle.scan_load.specs.Shifting.{ShiftsOn}

-- what holds of the links of all chains holds of those of each, and the other way round
parted : (P : LineId × LineId → Type 0) (front back : LinkList) → AllByRecursion P (front ++ back)
    → AllByRecursion P front × AllByRecursion P back
parted P [] back all = (tt, all)
parted P (link ∷ front) back all = let rest = parted P front back all.1 in ((all.0, rest.0), rest.1)

joined : (P : LineId × LineId → Type 0) (front back : LinkList) → AllByRecursion P front → AllByRecursion P back
    → AllByRecursion P (front ++ back)
joined P [] back all more = more
joined P (link ∷ front) back all more = (all.0, joined P front back all.1 more)

in_each : (P : LineId × LineId → Type 0) (chains : List (List LineId)) → AllByRecursion P (links_of_chains chains)
    → AllByRecursion (λ chain. All P (links_along chain)) chains
in_each P [] all = tt
in_each P (chain ∷ chains) all =
    let parts = parted P (links_along chain) (links_of_chains chains) all in
    (All-from_recursion P (links_along chain) parts.0, in_each P chains parts.1)

in_all : (P : LineId × LineId → Type 0) (chains : List (List LineId)) → AllByRecursion (λ chain. All P (links_along chain)) chains
    → AllByRecursion P (links_of_chains chains)
in_all P [] all = tt
in_all P (chain ∷ chains) all =
    joined P (links_along chain) (links_of_chains chains) (recursion_from_All P (links_along chain) all.0) (in_all P chains all.1)

module _ (c : Circuit) (is : IsCircuit c) (chains : List (List LineId)) (are : AreChainsOf c chains) (pair : Vectors) where
  -- the second vector has at the link's flip-flop the bit that the first has at the one before
  abbrev MovesOn : LineId × LineId → Type 0
  MovesOn link = bit_of pair.second link.0.0 ≡ bit_of pair.first link.1.0

  -- a flip-flop's value is its bit
  bit : (line : ℕ) → line < source_count c → value c pair.first line ≡ bit_of pair.first line
  bit line source = value_at_source c (bit_of pair.first) (λ gate values. gate_value (kind_at c gate) values) line source

  pub keeps_shifts : KeepsLinks c (links_of_chains chains) pair → All (λ chain. ShiftsOn chain pair) chains
  keeps_shifts keeps =
      All-from_recursion (λ chain. ShiftsOn chain pair) chains
      (in_each MovesOn chains (recursion_from_All MovesOn (links_of_chains chains) moves))
    where
      moves : All MovesOn (links_of_chains chains)
      moves at d within =
          let link = get_or (links_of_chains chains) at d in
          keeps link.0.0 link.1.0 (at, within, get_or_default (links_of_chains chains) at link d within)
          ∙ bit link.1.0 (links_are_sources c is chains are at d within)

  pub shifts_keep : All (λ chain. ShiftsOn chain pair) chains → KeepsLinks c (links_of_chains chains) pair
  shifts_keep shifts source line among =
      All-contains MovesOn (links_of_chains chains) (record { 0 = source }, record { 0 = line }) moves among
      ∙ sym (bit line
      (All-contains (λ (link : LineId × LineId). link.1.0 < source_count c) (links_of_chains chains) (record { 0 = source }, record { 0 = line })
      (links_are_sources c is chains are) among))
    where
      moves : All MovesOn (links_of_chains chains)
      moves =
          All-from_recursion MovesOn (links_of_chains chains)
          (in_all MovesOn chains (recursion_from_All (λ chain. ShiftsOn chain pair) chains shifts))
