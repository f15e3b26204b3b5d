-- Which lines have one value at all times under a pair of vectors, whatever the delays are (hazard analysis with three
-- values).
use Rattle.std.specs.Prelude.{◌≡◌, ℕ, Bool, true, false, not, cond, List, [], ◌∷◌, map, Option, Some, None, option_map, is_some, if◌then◌else◌, unwrap_or}
use Rattle.std.specs.List.{list_all, list_any}
use Rattle.pd_base.specs.Pair.{Vectors}
use Rattle.netlist.specs.declared.kind.GateKind.{GateKind}
use Rattle.netlist.specs.declared.kind.GateKind.TheVariants.{And, Nand, Or, Nor, Xor, Xnor, Not, Buff}
use Rattle.netlist.specs.Circuit.{Circuit, kind_at}
use Rattle.netlist.specs.Evaluation.{value_of}
use Rattle.netlist.specs.Values.{bit_of, parity}

-- is this value known, and is it this one
abbrev pub is_known_as : Bool → Option Bool → Bool
is_known_as bit None = false
is_known_as bit (Some known) = cond bit known (not known)

-- the conjunction of values that may be unknown: one known 0 decides, and else all have to be known
abbrev pub known_all : List (Option Bool) → Option Bool
known_all values =
    if list_any (is_known_as false) values then Some false
    else if list_all (is_known_as true) values then Some true else None

-- the disjunction: one known 1 decides, and else all have to be known
abbrev pub known_any : List (Option Bool) → Option Bool
known_any values =
    if list_any (is_known_as true) values then Some true
    else if list_all (is_known_as false) values then Some false else None

-- the parity, where all values are known
abbrev pub known_parity : List (Option Bool) → Option Bool
known_parity values =
    if list_all is_some values then Some (parity (map (λ value. unwrap_or value false) values)) else None

-- the value at the only pin of an inverter or a buffer, which may be unknown
abbrev pub only_known : List (Option Bool) → Option Bool
only_known [] = None
only_known (value ∷ values) = value

-- a gate's function of values that may be unknown (Kleene's three values)
abbrev pub known_gate_value : GateKind → List (Option Bool) → Option Bool
known_gate_value And values = known_all values
known_gate_value Nand values = option_map not (known_all values)
known_gate_value Or values = known_any values
known_gate_value Nor values = option_map not (known_any values)
known_gate_value Xor values = known_parity values
known_gate_value Xnor values = option_map not (known_parity values)
known_gate_value Not values = option_map not (only_known values)
known_gate_value Buff values = only_known values

-- the bit of a source on which both vectors agree, and else nothing
abbrev pub agreed_bit : Vectors → ℕ → Option Bool
agreed_bit pair source =
    if is_known_as (bit_of pair.first source) (Some (bit_of pair.second source))
    then Some (bit_of pair.second source) else None

-- the value at which a line is steady under a pair, if it is steady
abbrev pub steady_value : Circuit → Vectors → ℕ → Option Bool
steady_value c pair line =
    value_of c (agreed_bit pair) (λ gate values. known_gate_value (kind_at c gate) values) line

-- the line is steady at this bit under the pair
abbrev pub IsSteadyAt : Circuit → Vectors → ℕ → Bool → Type 0
IsSteadyAt c pair line bit = steady_value c pair line ≡ Some bit

-- whether the line is steady under the pair, at either value
abbrev pub is_steady : Circuit → Vectors → ℕ → Bool
is_steady c pair line = is_some (steady_value c pair line)
