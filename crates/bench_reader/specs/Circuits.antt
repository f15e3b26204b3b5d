-- The circuit of a text (ISCAS .bench).
use Rattle.std.specs.Prelude.{◌≡◌, ℕ, List, Ok}
use Rattle.netlist.specs.Circuit.{Circuit}
use Rattle.netlist.specs.Description.{Describes}
use Rattle.netlist.specs.Statements.{Numbered}
use Rattle.bench_reader.specs.Texts.{statements_of}

-- The text has this circuit: no line is refused, and the statements of its lines describe the circuit.
pub record HasCircuit (text : List ℕ) (c : Circuit) : Type 0 where
  pub statements : List Numbered
  pub read : statements_of text ≡ Ok statements
  pub described : Describes statements c
