-- The one canonical text of a circuit (this project's own).
use Rattle.std.specs.Prelude.{ℕ, ◌-◌, List, [], ◌∷◌, ◌++◌, map, take, length, codes}
use Rattle.std.specs.List.{flat_map}
use Rattle.pd_base.specs.declared.ids.LineId.{LineId}
use Rattle.netlist.specs.declared.kind.GateKind.{GateKind}
use Rattle.netlist.specs.declared.kind.GateKind.TheVariants.{And, Nand, Or, Nor, Xor, Xnor, Not, Buff}
use Rattle.netlist.specs.declared.raw_net.RawStmt.{RawStmt}
use Rattle.netlist.specs.declared.raw_net.RawStmt.TheVariants.{Input, Output, Gate as GateStatement, Flop}
use Rattle.netlist.specs.Circuit.{Circuit, Gate, source_count}
use Rattle.netlist.specs.Names.{name_at}

-- how a kind is spelled
abbrev pub kind_text : GateKind → List ℕ
kind_text And = codes "AND"
kind_text Nand = codes "NAND"
kind_text Or = codes "OR"
kind_text Nor = codes "NOR"
kind_text Xor = codes "XOR"
kind_text Xnor = codes "XNOR"
kind_text Not = codes "NOT"
kind_text Buff = codes "BUFF"

-- the rest of the arguments, each behind a comma and a space
abbrev pub more_arguments : List (List ℕ) → List ℕ
more_arguments names = flat_map (λ name. codes ", " ++ name) names

-- the arguments, with a comma and a space between two
abbrev pub arguments_text : List (List ℕ) → List ℕ
arguments_text [] = []
arguments_text (name ∷ names) = name ++ more_arguments names

-- the line of a gate up to its arguments
abbrev pub gate_head : List ℕ → GateKind → List ℕ
gate_head name kind = name ++ codes " = " ++ kind_text kind ++ codes "("

-- the line of a statement, without its end
abbrev pub statement_text : RawStmt → List ℕ
statement_text (Input name) = codes "INPUT(" ++ name ++ codes ")"
statement_text (Output name) = codes "OUTPUT(" ++ name ++ codes ")"
statement_text (GateStatement name kind arguments) =
    gate_head name kind ++ arguments_text arguments ++ codes ")"
statement_text (Flop name data_line) = name ++ codes " = DFF(" ++ data_line ++ codes ")"

-- a line, with its end
abbrev pub with_line_end : List ℕ → List ℕ
with_line_end line = line ++ codes "\n"

-- the text of some statements, each on a line of its own
abbrev pub statements_text : List RawStmt → List ℕ
statements_text statements = flat_map (λ statement. with_line_end (statement_text statement)) statements

-- the names of these lines
abbrev pub names_at : Circuit → List LineId → List (List ℕ)
names_at c lines = map (λ line. name_at c line.0) lines

-- how many sources are inputs: all but the flip-flops, which are the last
abbrev pub input_count : Circuit → ℕ
input_count c = source_count c - length c.flops

-- the statements of the inputs
abbrev pub input_statements : Circuit → List RawStmt
input_statements c = map Input (take (input_count c) c.sources)

-- the statement of an output line
abbrev pub output_statement : Circuit → LineId → RawStmt
output_statement c line = Output (name_at c line.0)

-- the statements of the outputs
abbrev pub output_statements : Circuit → List RawStmt
output_statements c = map (output_statement c) c.outputs

-- the statement of a flip-flop
abbrev pub flop_statement : Circuit → LineId × LineId → RawStmt
flop_statement c flop = Flop (name_at c flop.0.0) (name_at c flop.1.0)

-- the statements of the flip-flops
abbrev pub flop_statements : Circuit → List RawStmt
flop_statements c = map (flop_statement c) c.flops

-- the statement of a gate
abbrev pub gate_statement : Circuit → Gate → RawStmt
gate_statement c gate = GateStatement gate.name gate.kind (names_at c gate.pins)

-- the statements of the gates
abbrev pub gate_statements : Circuit → List RawStmt
gate_statements c = map (gate_statement c) c.gates

-- the statements of a circuit, each group in order
abbrev pub circuit_statements : Circuit → List RawStmt
circuit_statements c = input_statements c ++ (output_statements c ++ (flop_statements c ++ gate_statements c))

-- the canonical text
abbrev pub bench_text : Circuit → List ℕ
bench_text c = statements_text (circuit_statements c)
