-- The scan chains of a circuit: its flip-flops, strung into shift registers.
use Rattle.std.specs.Prelude.{◌≢◌, ◌≤◌, List, length, map, flat_map, All, AllPairs, Contains}
use Rattle.pd_base.specs.declared.ids.LineId.{LineId}
use Rattle.netlist.specs.Circuit.{Circuit}

-- the flip-flops' own lines, in the order of the netlist
abbrev pub flop_lines : Circuit → List LineId
flop_lines c = map (λ flop. flop.0) c.flops

-- the line is a flip-flop's own
abbrev pub IsFlop : Circuit → LineId → Type 0
IsFlop c line = Contains (flop_lines c) line

-- all that stands in the chains, chain by chain
abbrev pub in_chains : List (List LineId) → List LineId
in_chains chains = flat_map (λ chain. chain) chains

-- no chain is empty, and nothing stands twice
pub record AreChains (chains : List (List LineId)) : Type 0 where
  pub some : All (λ chain. 1 ≤ length chain) chains
  pub once : AllPairs (λ a b. a ≢ b) (in_chains chains)

-- the chains are those of the circuit: each of its flip-flops stands in them once, and nothing else does
pub record AreChainsOf (c : Circuit) (chains : List (List LineId)) : Type 0 where
  pub are : AreChains chains
  pub flops : All (IsFlop c) (in_chains chains)
  pub whole : All (Contains (in_chains chains)) (flop_lines c)
