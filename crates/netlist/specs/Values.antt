-- The Boolean value of a line under a vector (the Boolean function of a circuit).
use Rattle.std.specs.Prelude.{ℕ, Bool, false, not, cond, List, [], ◌∷◌, map, slice_index_or}
use Rattle.std.specs.List.{list_all, list_any}
use Rattle.netlist.specs.declared.kind.GateKind.{GateKind}
use Rattle.netlist.specs.declared.kind.GateKind.TheVariants.{And, Nand, Or, Nor, Xor, Xnor, Not, Buff}
use Rattle.netlist.specs.Circuit.{Circuit, kind_at, observed_lines}
use Rattle.netlist.specs.Evaluation.{value_of}

-- whether all values are true
abbrev pub all_true : List Bool → Bool
all_true values = list_all (λ value. value) values

-- whether some value is true
abbrev pub any_true : List Bool → Bool
any_true values = list_any (λ value. value) values

-- whether an odd number of the values is true
abbrev pub parity : List Bool → Bool
parity [] = false
parity (value ∷ values) = cond value (not (parity values)) (parity values)

-- the value at the only pin of an inverter or a buffer
abbrev pub only_value : List Bool → Bool
only_value [] = false
only_value (value ∷ values) = value

-- a gate's function of the values at its pins
abbrev pub gate_value : GateKind → List Bool → Bool
gate_value And values = all_true values
gate_value Nand values = not (all_true values)
gate_value Or values = any_true values
gate_value Nor values = not (any_true values)
gate_value Xor values = parity values
gate_value Xnor values = not (parity values)
gate_value Not values = not (only_value values)
gate_value Buff values = only_value values

-- the bit of a source, of which a vector has one each
abbrev pub bit_of : List Bool → ℕ → Bool
bit_of vector source = slice_index_or vector source false

-- the value of a line under a vector
abbrev pub value : Circuit → List Bool → ℕ → Bool
value c vector line = value_of c (bit_of vector) (λ gate values. gate_value (kind_at c gate) values) line

-- the values of the observed lines, in order
abbrev pub observed_values : Circuit → List Bool → List Bool
observed_values c vector = map (λ line. value c vector line.0) (observed_lines c)
