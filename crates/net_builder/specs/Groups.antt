-- Lines in the order of their numbers: those of inputs, of flip-flops and of gates (ISCAS .bench; this project's own order).
use Rattle.std.specs.Prelude.{ℕ, List, [], ◌∷◌, map}
use Rattle.std.specs.List.{flat_map}
use Rattle.netlist.specs.declared.raw_net.RawStmt.{RawStmt}
use Rattle.netlist.specs.declared.raw_net.RawStmt.TheVariants.{Input, Output, Gate, Flop}
use Rattle.netlist.specs.Description.{flop_in, gate_in, input_in}
use Rattle.netlist.specs.Statements.{Numbered}
use Rattle.net_builder.specs.declared.names.Group.{Group}
use Rattle.net_builder.specs.declared.names.Group.TheVariants.{Inputs, Flops, Gates}

-- the name that a statement defines, if it defines a line of the group
abbrev pub group_in : Group → RawStmt → List (List ℕ)
group_in Inputs statement = input_in statement
group_in Flops statement = map (λ flop. flop.name) (flop_in statement)
group_in Gates statement = map (λ gate. gate.name) (gate_in statement)

-- the names of the lines of a group
abbrev pub group_names : Group → List Numbered → List (List ℕ)
group_names group statements = flat_map (λ s. group_in group s.statement) statements

-- the name that a statement uses, if it is no gate
abbrev pub other_uses : RawStmt → List (List ℕ)
other_uses (Input name) = []
other_uses (Output name) = name ∷ []
other_uses (Gate name kind arguments) = []
other_uses (Flop name data_line) = data_line ∷ []
