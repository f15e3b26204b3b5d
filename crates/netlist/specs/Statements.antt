-- Statements of a netlist, each on a line of its text: what they define and use, and which of them are lawful (ISCAS .bench).
use Rattle.std.specs.Prelude.{ℕ, List, [], ◌∷◌, length, All}
use Rattle.netlist.specs.declared.raw_net.RawStmt.{RawStmt}
use Rattle.netlist.specs.declared.raw_net.RawStmt.TheVariants.{Input, Output, Gate, Flop}
use Rattle.netlist.specs.declared.kind.GateKind.{GateKind}
use Rattle.netlist.specs.Lawful.{IsFanIn}
use Rattle.netlist.specs.Names.{IsName}

-- a statement, and the number of its line in the text
pub record Numbered : Type 0 where
  pub line : ℕ
  pub statement : RawStmt

-- the statement on this line
abbrev pub numbered : ℕ → RawStmt → Numbered
numbered line statement = record { line = line; statement = statement }

-- the names that a statement defines
abbrev pub defined_by : RawStmt → List (List ℕ)
defined_by (Input name) = name ∷ []
defined_by (Output name) = []
defined_by (Gate name kind arguments) = name ∷ []
defined_by (Flop name data_line) = name ∷ []

-- the names that a statement uses, from the left
abbrev pub used_by : RawStmt → List (List ℕ)
used_by (Input name) = []
used_by (Output name) = name ∷ []
used_by (Gate name kind arguments) = arguments
used_by (Flop name data_line) = data_line ∷ []

-- what a gate's statement keeps
pub record IsGateStatement (name : List ℕ) (kind : GateKind) (arguments : List (List ℕ)) : Type 0 where
  pub own_name : IsName name
  pub names : All IsName arguments
  pub fan_in : IsFanIn kind (length arguments)

-- what a flip-flop's statement keeps
pub record IsFlopStatement (name data_line : List ℕ) : Type 0 where
  pub own_name : IsName name
  pub data_name : IsName data_line

-- the names of a statement are names, and a gate has as many arguments as its kind may
abbrev pub IsStatement : RawStmt → Type 0
IsStatement (Input name) = IsName name
IsStatement (Output name) = IsName name
IsStatement (Gate name kind arguments) = IsGateStatement name kind arguments
IsStatement (Flop name data_line) = IsFlopStatement name data_line
