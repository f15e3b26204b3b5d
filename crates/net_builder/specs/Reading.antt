-- What is read of a statement: its form and its own name; `used_by` has the names that it uses (this project's own).
use Rattle.std.specs.Prelude.{ℕ, List, [], slice_index_or}
use Rattle.netlist.specs.declared.raw_net.RawStmt.{RawStmt}
use Rattle.netlist.specs.declared.raw_net.RawStmt.TheVariants.{Input, Output, Gate, Flop}
use Rattle.net_builder.specs.declared.raw_net.Form.{Form}
use Rattle.net_builder.specs.declared.raw_net.Form.TheVariants.{Input as InputForm, Output as OutputForm, Gate as GateForm, Flop as FlopForm}
use Rattle.netlist.specs.Statements.{Numbered, numbered}

-- the form of a statement
abbrev pub form_of : RawStmt → Form
form_of (Input name) = InputForm
form_of (Output name) = OutputForm
form_of (Gate name kind arguments) = GateForm kind
form_of (Flop name data_line) = FlopForm

-- the name before the arguments: the one that is defined, or that of the output
abbrev pub own_name : RawStmt → List ℕ
own_name (Input name) = name
own_name (Output name) = name
own_name (Gate name kind arguments) = name
own_name (Flop name data_line) = name

-- what is read past the last statement
abbrev pub no_statement : Numbered
no_statement = numbered 0 (Output [])

-- the statement at a place
abbrev pub statement_at : List Numbered → ℕ → RawStmt
statement_at statements place = (slice_index_or statements place no_statement).statement

-- the number of its line
abbrev pub line_at : List Numbered → ℕ → ℕ
line_at statements place = (slice_index_or statements place no_statement).line
