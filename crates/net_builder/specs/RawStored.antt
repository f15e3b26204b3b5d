-- How a list of statements is kept: the names of all statements one after another, and for each statement its form and
-- where its names stand among them (this project's own).
use Rattle.std.specs.Prelude.{ℕ, ◌+◌, ◌-◌, ◌≤◌, List, [], length, map, take, drop, slice_index_or, All}
use Rattle.netlist.specs.declared.limits.TheConstants.{MOST_STATEMENTS}
use Rattle.net_builder.specs.declared.raw_net.Form.{Form}
use Rattle.net_builder.specs.declared.raw_net.Form.TheVariants.{Input as InputForm, Output as OutputForm, Gate as GateForm, Flop as FlopForm}
use Rattle.net_builder.specs.declared.raw_net.Placed.{Placed}
use Rattle.net_builder.specs.declared.raw_net.RawNet.TheInside.{Inside}
use Rattle.netlist.specs.declared.raw_net.RawStmt.{RawStmt}
use Rattle.netlist.specs.declared.raw_net.RawStmt.TheVariants.{Input, Output, Gate, Flop}
use Rattle.netlist.specs.Statements.{IsStatement, Numbered, numbered}

-- the statement of this form with these names
abbrev pub with_names : Form → List (List ℕ) → RawStmt
with_names InputForm names = Input (slice_index_or names 0 [])
with_names OutputForm names = Output (slice_index_or names 0 [])
with_names (GateForm kind) names = Gate (slice_index_or names 0 []) kind (drop 1 names)
with_names FlopForm names = Flop (slice_index_or names 0 []) (slice_index_or names 1 [])

-- the names of a statement, out of those of all
abbrev pub own_names : List (List ℕ) → Placed → List (List ℕ)
own_names names placed = take placed.count (drop placed.first names)

-- the statement that is kept so
abbrev pub statement_in : List (List ℕ) → Placed → Numbered
statement_in names placed = numbered placed.line (with_names placed.form (own_names names placed))

-- all statements, in order
abbrev pub statements_in : Inside → List Numbered
statements_in raw = map (statement_in raw.names) raw.statements.items

-- the statement's names stand among these
abbrev pub HasNames : List (List ℕ) → Placed → Type 0
HasNames names placed = placed.first + placed.count ≤ length names

-- what is true of each list of statements
pub record IsRaw (raw : Inside) : Type 0 where
  pub places : All (HasNames raw.names) raw.statements.items
  pub lawful : All (λ s. IsStatement s.statement) (statements_in raw)
  pub few : length raw.statements.items ≤ MOST_STATEMENTS

-- how many of a statement's names stand before those that it uses
abbrev pub skipped : Form → ℕ
skipped InputForm = 0
skipped OutputForm = 0
skipped (GateForm kind) = 1
skipped FlopForm = 1

-- how many names a statement of this form uses that has so many names
abbrev pub used_count : Form → ℕ → ℕ
used_count InputForm count = 0
used_count OutputForm count = 1
used_count (GateForm kind) count = count - 1
used_count FlopForm count = 1
