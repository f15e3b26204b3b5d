-- Chains as far as they are read (this project's own).
use Rattle.std.specs.Prelude.{◌≡◌, ◌≢◌, ◌↔◌, ℕ, ◌<◌, ◌≤◌, false, IsTrue, List, [], ◌∷◌, ◌++◌, length, All, AllPairs, Contains, slice_index_or}
use Rattle.pd_base.specs.Memory.{out_of_memory}
use Rattle.pd_base.specs.declared.ids.LineId.{LineId}
use Rattle.netlist.specs.Circuit.{Circuit, source_count}
use Rattle.netlist.specs.Lawful.{IsCircuit}
use Rattle.text_pieces.specs.Tokens.{line}
use Rattle.scan_order.specs.Chains.{IsFlop, in_chains}
use Rattle.scan_order.specs.ScanFile.{scan_lines}
use Rattle.scan_order.specs.ScanRefusals.{IsMissingFlop, IsRepeatedLine, IsUnknownLine}
use Rattle.scan_order.specs.declared.growing.Growing.{Growing}
use Rattle.scan_order.specs.declared.scan_fault.ScanFault.{ScanFault}
use Rattle.scan_order.specs.declared.scan_fault.ScanFault.TheVariants as fault

-- the chains that have ended, and the one that goes on
abbrev pub chains_so_far : Growing → List (List LineId)
chains_so_far growing = growing.ended.items ++ growing.chain.items ∷ []

-- exactly the sources that stand in the chains have their marks
pub record MarksPlaced (c : Circuit) (chains : List (List LineId)) (growing : Growing) : Type 0 where
  pub room : length growing.placed.items ≡ source_count c
  pub exactly : (source : ℕ) → source < source_count c
      → IsTrue (slice_index_or growing.placed.items source false) ↔ Contains (in_chains chains) (record { 0 = source })

-- the chains so far are of flip-flops of the circuit, each once; only the last may be empty
pub record HoldsChainsSoFar (c : Circuit) (growing : Growing) : Type 0 where
  pub circuit : IsCircuit c
  pub some : All (λ chain. 1 ≤ length chain) growing.ended.items
  pub flops : All (IsFlop c) (in_chains (chains_so_far growing))
  pub once : AllPairs (λ a b. a ≢ b) (in_chains (chains_so_far growing))
  pub marks : MarksPlaced c (chains_so_far growing) growing

-- the lines read so far
abbrev pub lines_so_far : Circuit → Growing → List (List ℕ)
lines_so_far c growing = scan_lines c (chains_so_far growing)

-- the first line of the text was taken, and this text stands behind it, which is not empty where a chain has just ended
pub record TakesLine (c : Circuit) (text : List ℕ) (old new : Growing) (behind : List ℕ) : Type 0 where
  pub said : List ℕ
  pub first : text ≡ line said ++ behind
  pub more : lines_so_far c new ≡ lines_so_far c old ++ said ∷ []
  pub goes_on : new.chain.items ≡ [] → behind ≢ []

-- why the line of this number, the first of the text, is not taken
pub data FailsToTakeLine (c : Circuit) (number : ℕ) (text : List ℕ) (old : Growing) : ScanFault → Type 0 where
  unknown : IsUnknownLine c (lines_so_far c old) text → FailsToTakeLine c number text old (fault.Unknown number)
  twice : IsRepeatedLine c (lines_so_far c old) text → FailsToTakeLine c number text old (fault.Twice number)
  no_memory : FailsToTakeLine c number text old (fault.NoMemory out_of_memory)

-- this is the first of the lines that is not inside
pub record IsFirstOutside (inside lines : List LineId) (line : LineId) : Type 0 where
  pub before : List LineId
  pub behind : List LineId
  pub place : lines ≡ before ++ line ∷ behind
  pub others : All (Contains inside) before
  pub outside : ¬ Contains inside line

-- why the chains may not end here
pub data FailsToEnd (c : Circuit) (growing : Growing) : ScanFault → Type 0 where
  missing : (flop : LineId) → IsMissingFlop c (lines_so_far c growing) flop → FailsToEnd c growing (fault.Missing flop)
  no_memory : FailsToEnd c growing (fault.NoMemory out_of_memory)
