-- The scan file: a flip-flop's name on each line, the scan-in side of its chain first, and an empty line between two chains (this
-- project's own format).
use Rattle.std.specs.Prelude.{◌≡◌, ℕ, List, [], ◌∷◌, ◌++◌, map, flat_map}
use Rattle.pd_base.specs.declared.ids.LineId.{LineId}
use Rattle.netlist.specs.Circuit.{Circuit}
use Rattle.netlist.specs.Names.{name_at}
use Rattle.text_pieces.specs.Tokens.{line}
use Rattle.scan_order.specs.Chains.{AreChainsOf}

-- the names of a chain's flip-flops
abbrev pub chain_names : Circuit → List LineId → List (List ℕ)
chain_names c chain = map (λ flop. name_at c flop.0) chain

-- the names of each of these chains behind an empty line
abbrev pub parted_names : Circuit → List (List LineId) → List (List ℕ)
parted_names c chains = flat_map (λ chain. [] ∷ chain_names c chain) chains

-- the lines of the file
abbrev pub scan_lines : Circuit → List (List LineId) → List (List ℕ)
scan_lines c [] = []
scan_lines c (chain ∷ chains) = chain_names c chain ++ parted_names c chains

-- lines as a text, each with its LF
abbrev pub text_of_lines : List (List ℕ) → List ℕ
text_of_lines lines = flat_map line lines

-- the file of chains
abbrev pub scan_text : Circuit → List (List LineId) → List ℕ
scan_text c chains = text_of_lines (scan_lines c chains)

-- the text is the scan file of these chains of the circuit
pub record HasChains (c : Circuit) (text : List ℕ) (chains : List (List LineId)) : Type 0 where
  pub are : AreChainsOf c chains
  pub is_text : text ≡ scan_text c chains
