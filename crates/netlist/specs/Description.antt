-- The circuit that a list of statements describes (ISCAS .bench: lines are known by name, and names may be used before they
-- are defined). Why a list may describe none is said in specs/Refusals.antt of
-- the crate net_builder.
use Rattle.std.specs.Prelude.{◌≡◌, ◌≢◌, ℕ, ◌≤◌, List, [], ◌∷◌, ◌++◌, length, map, sum_by, All, AllPairs, Contains}
use Rattle.std.specs.List.{flat_map, position_or_len}
use Rattle.std.specs.Str.{bytes_eq}
use Rattle.pd_base.specs.declared.ids.LineId.{LineId}
use Rattle.netlist.specs.declared.kind.GateKind.{GateKind}
use Rattle.netlist.specs.declared.limits.TheConstants.{MOST_LEVELS, MOST_LINES, MOST_PINS}
use Rattle.netlist.specs.declared.raw_net.RawStmt.{RawStmt}
use Rattle.netlist.specs.declared.raw_net.RawStmt.TheVariants.{Input, Output, Gate as GateStatement, Flop}
use Rattle.netlist.specs.Circuit.{Circuit, Gate, distinct_lines}
use Rattle.netlist.specs.Lawful.{IsLoopFree}
use Rattle.netlist.specs.Levels.{greatest_level}
use Rattle.netlist.specs.Statements.{Numbered, defined_by, used_by}

-- a name where it stands in a text: the number of the line, and the name
pub record Mention : Type 0 where
  pub line : ℕ
  pub name : List ℕ

-- the mentions of these names on this line
abbrev pub mentions : ℕ → List (List ℕ) → List Mention
mentions line names = map (λ name. record { line = line; name = name }) names

-- where names are defined, in order
abbrev pub definitions : List Numbered → List Mention
definitions statements = flat_map (λ s. mentions s.line (defined_by s.statement)) statements

-- where names are used, in order, and from the left on each line
abbrev pub uses : List Numbered → List Mention
uses statements = flat_map (λ s. mentions s.line (used_by s.statement)) statements

-- the names that are defined, in order
abbrev pub defined_names : List Numbered → List (List ℕ)
defined_names statements = flat_map (λ s. defined_by s.statement) statements

-- the names that are used, in order
abbrev pub used_names : List Numbered → List (List ℕ)
used_names statements = flat_map (λ s. used_by s.statement) statements

-- the name of an input
abbrev pub input_in : RawStmt → List (List ℕ)
input_in (Input name) = name ∷ []
input_in (Output name) = []
input_in (GateStatement name kind arguments) = []
input_in (Flop name data_line) = []

-- the name of an output
abbrev pub output_in : RawStmt → List (List ℕ)
output_in (Input name) = []
output_in (Output name) = name ∷ []
output_in (GateStatement name kind arguments) = []
output_in (Flop name data_line) = []

-- a gate by names
pub record NamedGate : Type 0 where
  pub name : List ℕ
  pub kind : GateKind
  pub arguments : List (List ℕ)

-- the gate that a statement defines
abbrev pub gate_in : RawStmt → List NamedGate
gate_in (Input name) = []
gate_in (Output name) = []
gate_in (GateStatement name kind arguments) = record { name = name; kind = kind; arguments = arguments } ∷ []
gate_in (Flop name data_line) = []

-- a flip-flop by names: its own, and that of its data line
pub record NamedFlop : Type 0 where
  pub name : List ℕ
  pub data_name : List ℕ

-- the flip-flop that a statement defines
abbrev pub flop_in : RawStmt → List NamedFlop
flop_in (Input name) = []
flop_in (Output name) = []
flop_in (GateStatement name kind arguments) = []
flop_in (Flop name data_line) = record { name = name; data_name = data_line } ∷ []

-- the inputs, in order
abbrev pub inputs : List Numbered → List (List ℕ)
inputs statements = flat_map (λ s. input_in s.statement) statements

-- the outputs, in order, repeated ones too
abbrev pub outputs : List Numbered → List (List ℕ)
outputs statements = flat_map (λ s. output_in s.statement) statements

-- the gates, in order
abbrev pub gates : List Numbered → List NamedGate
gates statements = flat_map (λ s. gate_in s.statement) statements

-- where gates are defined, in order
abbrev pub gate_mentions : List Numbered → List Mention
gate_mentions statements = flat_map (λ s. mentions s.line (map (λ gate. gate.name) (gate_in s.statement))) statements

-- the flip-flops, in order
abbrev pub flops : List Numbered → List NamedFlop
flops statements = flat_map (λ s. flop_in s.statement) statements

-- how many pins the gate of a statement has
abbrev pub pins_in : RawStmt → ℕ
pins_in statement = sum_by (λ gate. length gate.arguments) (gate_in statement)

-- how many pins all gates have
abbrev pub stated_pins : List Numbered → ℕ
stated_pins statements = sum_by (λ s. pins_in s.statement) statements

-- the names of the sources: inputs, then flip-flops
abbrev pub source_names : List Numbered → List (List ℕ)
source_names statements = inputs statements ++ map (λ flop. flop.name) (flops statements)

-- the names of all lines by line number: sources, then gates
abbrev pub names_by_line : List Numbered → List (List ℕ)
names_by_line statements = source_names statements ++ map (λ gate. gate.name) (gates statements)

-- the line that bears a name: where it stands among the names of the lines
abbrev pub line_named : List (List ℕ) → List ℕ → LineId
line_named names name = record { 0 = position_or_len (bytes_eq name) names }

-- a gate whose pins read the lines that bear its arguments
abbrev pub gate_on : List (List ℕ) → NamedGate → Gate
gate_on names gate = record { name = gate.name; kind = gate.kind; pins = map (line_named names) gate.arguments }

-- a flip-flop's own line and its data line
abbrev pub flop_on : List (List ℕ) → NamedFlop → LineId × LineId
flop_on names flop = (line_named names flop.name, line_named names flop.data_name)

-- what the statements say, whether or not it is a circuit
abbrev pub described : List Numbered → Circuit
described statements = record {
  sources = source_names statements;
  gates = map (gate_on (names_by_line statements)) (gates statements);
  outputs = distinct_lines (map (line_named (names_by_line statements)) (outputs statements));
  flops = map (flop_on (names_by_line statements)) (flops statements);
}

-- the numbers of lines and pins are within their limits
pub record IsWithinLimits (statements : List Numbered) : Type 0 where
  pub few_lines : length (definitions statements) ≤ MOST_LINES
  pub few_pins : stated_pins statements ≤ MOST_PINS

-- each name is defined once at most
abbrev pub AreDistinct : List Numbered → Type 0
AreDistinct statements = AllPairs (λ a b. a ≢ b) (defined_names statements)

-- each name that is used is defined
abbrev pub AreDefined : List Numbered → Type 0
AreDefined statements = All (λ name. Contains (defined_names statements) name) (used_names statements)

-- lines and pins are within their limits, and each use means one line
pub record AreNamed (statements : List Numbered) : Type 0 where
  pub limits : IsWithinLimits statements
  pub distinct : AreDistinct statements
  pub defined : AreDefined statements

-- The statements describe this circuit. They describe no other.
pub record Describes (statements : List Numbered) (c : Circuit) : Type 0 where
  pub named : AreNamed statements
  pub is : c ≡ described statements
  pub loop_free : IsLoopFree c
  pub few_levels : greatest_level c ≤ MOST_LEVELS
