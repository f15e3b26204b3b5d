-- A circuit as all definitions see it (ISCAS .bench: gates by name, flip-flops cut at their data lines). Which of these
-- lists make a circuit is said in Lawful.antt.
use Rattle.std.specs.List.{All}
use Rattle.std.specs.Prelude.{ℕ, ◌+◌, ◌<◌, not, List, [], ◌∷◌, ◌++◌, length, map, filter, slice_index_or, ◌==◌}
use Rattle.pd_base.specs.declared.ids.LineId.{LineId}
use Rattle.pd_base.specs.declared.ids.GateId.{GateId}
use Rattle.netlist.specs.declared.kind.GateKind.{GateKind}
use Rattle.netlist.specs.declared.kind.GateKind.TheVariants.{Buff}

-- a gate: its name, its kind, and the line that each pin reads
pub record Gate : Type 0 where
  pub name : List ℕ
  pub kind : GateKind
  pub pins : List LineId

-- The names of the sources (inputs, then flip-flops), the gates, the output lines each once, and for each flip-flop
-- its own line and its data line.
pub record Circuit : Type 0 where
  pub sources : List (List ℕ)
  pub gates : List Gate
  pub outputs : List LineId
  pub flops : List (LineId × LineId)

-- how many sources there are
abbrev pub source_count : Circuit → ℕ
source_count c = length c.sources

-- how many gates there are
abbrev pub gate_count : Circuit → ℕ
gate_count c = length c.gates

-- sources have the first numbers, gates the numbers behind them
abbrev pub line_count : Circuit → ℕ
line_count c = source_count c + gate_count c

-- the number of the line of a gate
abbrev pub gate_line : Circuit → ℕ → ℕ
gate_line c gate = source_count c + gate

-- what is read past the last gate
abbrev pub no_gate : Gate
no_gate = record { name = []; kind = Buff; pins = [] }

-- the gate of this number
abbrev pub gate_at : Circuit → ℕ → Gate
gate_at c gate = slice_index_or c.gates gate no_gate

-- the kind of a gate
abbrev pub kind_at : Circuit → ℕ → GateKind
kind_at c gate = (gate_at c gate).kind

-- the lines that the pins of a gate read, by pin
abbrev pub pins_at : Circuit → ℕ → List LineId
pins_at c gate = (gate_at c gate).pins

-- these are lines of the circuit
abbrev pub HasLines : Circuit → List LineId → Type 0
HasLines c lines = All (λ line. line.0 < line_count c) lines

-- these are gates of the circuit
abbrev pub HasGates : Circuit → List GateId → Type 0
HasGates c gates = All (λ gate. gate.0 < gate_count c) gates

-- the names of all lines, by line number
abbrev pub line_names : Circuit → List (List ℕ)
line_names c = c.sources ++ map (λ g. g.name) c.gates

-- the data lines of the flip-flops, in order
abbrev pub data_lines : Circuit → List LineId
data_lines c = map (λ flop. flop.1) c.flops

-- each line once, at its first place
abbrev pub distinct_lines : List LineId → List LineId
distinct_lines [] = []
distinct_lines (line ∷ lines) = line ∷ filter (λ other. not (other.0 == line.0)) (distinct_lines lines)

-- the output lines and then the data lines of the flip-flops, each line once, at its first place
abbrev pub observed_lines : Circuit → List LineId
observed_lines c = distinct_lines (c.outputs ++ data_lines c)
