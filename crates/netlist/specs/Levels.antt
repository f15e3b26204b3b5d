-- Levels of lines, and the rank order of gates (levelization, as in every gate-level simulator).
use Rattle.std.specs.Prelude.{◌≡◌, ℕ, ◌+◌, ◌<◌, List, map, take, slice_get, Some, All, AllPairs, Contains}
use Rattle.std.specs.List.{range_with_len}
use Rattle.pd_base.specs.declared.ids.GateId.{GateId}
use Rattle.netlist.specs.Circuit.{Circuit, HasGates, source_count, gate_count, gate_line, line_count, pins_at}
use Rattle.netlist.specs.Evaluation.{value_of}
use Rattle.netlist.specs.Greatest.{greatest}

-- the level of a line: sources stand at 0, and each gate stands one above the highest of the lines that it reads
abbrev pub level : Circuit → ℕ → ℕ
level c line = value_of c (λ source. 0) (λ gate levels. 1 + greatest levels) line

-- the levels of all lines, by line number
abbrev pub line_levels : Circuit → List ℕ
line_levels c = map (level c) (range_with_len 0 (line_count c))

-- the greatest level, 0 where there are no lines
abbrev pub greatest_level : Circuit → ℕ
greatest_level c = greatest (line_levels c)

-- the first gate stands on a lower level, or on the same level with a lesser number
pub data IsRankedBefore (c : Circuit) (a b : GateId) : Type 0 where
  lower_level : level c (gate_line c a.0) < level c (gate_line c b.0) → IsRankedBefore c a b
  lesser_number : level c (gate_line c a.0) ≡ level c (gate_line c b.0) → a.0 < b.0 → IsRankedBefore c a b

-- all gates of the circuit, each ranked before the next ones
pub record IsRankOrder (c : Circuit) (order : List GateId) : Type 0 where
  pub rising : AllPairs (IsRankedBefore c) order
  pub in_circuit : HasGates c order
  pub whole : (gate : ℕ) → gate < gate_count c → Contains order (record { 0 = gate })

-- the line of a source, or of one of these gates
pub data IsDriven (c : Circuit) (gates : List GateId) (line : ℕ) : Type 0 where
  by_source : line < source_count c → IsDriven c gates line
  by_gate : (gate : ℕ) → Contains gates (record { 0 = gate }) → line ≡ gate_line c gate → IsDriven c gates line

-- each gate reads sources and gates that stand earlier in the list, and nothing else
abbrev pub ReadsEarlier : Circuit → List GateId → Type 0
ReadsEarlier c gates =
    (place : ℕ) (gate : GateId) → slice_get gates place ≡ Some gate
    → All (λ line. IsDriven c (take place gates) line.0) (pins_at c gate.0)
