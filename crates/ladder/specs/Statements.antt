-- The ladder as statements (ISCAS .bench).
use Rattle.std.specs.Prelude.{ℕ, List, ◌∷◌, ◌++◌, map}
use Rattle.netlist.specs.declared.raw_net.RawStmt.TheVariants.{Input, Output, Gate}
use Rattle.netlist.specs.Description.{NamedGate}
use Rattle.netlist.specs.Statements.{Numbered, numbered}
use Rattle.ladder.specs.declared.line.Letter.TheVariants.{X}
use Rattle.ladder.specs.declared.statements.TheConstants.{NO_LINE}
use Rattle.ladder.specs.Ladder.{ladder_gates, ladder_name, ladder_sources}

-- the statement of a source
abbrev pub input_stated : List ℕ → Numbered
input_stated name = numbered NO_LINE (Input name)

-- the statement of an output
abbrev pub output_stated : List ℕ → Numbered
output_stated name = numbered NO_LINE (Output name)

-- the statement of a gate
abbrev pub gate_stated : NamedGate → Numbered
gate_stated gate = numbered NO_LINE (Gate gate.name gate.kind gate.arguments)

-- the statements of a ladder: its sources, its output, its gates
abbrev pub ladder_statements : ℕ → List Numbered
ladder_statements stages =
    map input_stated (ladder_sources stages) ++ output_stated (ladder_name X stages) ∷ map gate_stated (ladder_gates stages)
