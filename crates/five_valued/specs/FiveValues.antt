-- The five values, and what gates make of them: S0 and S1 are steady at their digit, U0 and U1 have it under the second vector
-- and may be steady or not, and XX may be anything (this project's own).
use Rattle.std.specs.Prelude.{ℕ, Bool, true, false, not, List, map, slice_index_or, if◌then◌else◌, ◌||◌}
use Rattle.std.specs.List.{list_all, list_any}
use Rattle.netlist.specs.declared.kind.GateKind.{GateKind}
use Rattle.netlist.specs.Circuit.{Circuit, kind_at}
use Rattle.netlist.specs.Evaluation.{value_of}
use Rattle.netlist.specs.Values.{parity}
use Rattle.netlist.specs.declared.op.Op.{Op}
use Rattle.netlist.specs.declared.op.Op.TheVariants.{And, Or, Xor}
use Rattle.netlist.specs.Gates.{op_of, is_inverting}
use Rattle.five_valued.specs.declared.five.Five.{Five}
use Rattle.five_valued.specs.declared.five.Five.TheVariants.{S0, S1, U0, U1, XX}

-- the line is known to be steady at this bit
abbrev pub is_steady_at : Bool → Five → Bool
is_steady_at bit S0 = not bit
is_steady_at bit S1 = bit
is_steady_at bit U0 = false
is_steady_at bit U1 = false
is_steady_at bit XX = false

-- its value under the second vector is known to be this bit
abbrev pub ends_at : Bool → Five → Bool
ends_at bit S0 = not bit
ends_at bit S1 = bit
ends_at bit U0 = not bit
ends_at bit U1 = bit
ends_at bit XX = false

-- it is known to be steady, at either bit
abbrev pub is_known_steady : Five → Bool
is_known_steady value = is_steady_at false value || is_steady_at true value

-- its value under the second vector is known
abbrev pub has_last : Five → Bool
has_last value = ends_at false value || ends_at true value

-- steady at this bit
abbrev pub steady_five : Bool → Five
steady_five false = S0
steady_five true = S1

-- this bit under the second vector, steady or not
abbrev pub ending_five : Bool → Five
ending_five false = U0
ending_five true = U1

-- AND, whose controlling bit is 0, or OR, where it is 1: steady at that bit where some pin is, and at the other where all pins
-- are; else ending at that bit where some pin does, and at the other where all pins do
abbrev pub controlled : Bool → List Five → Five
controlled bit values =
    if list_any (is_steady_at bit) values then steady_five bit
    else if list_all (is_steady_at (not bit)) values then steady_five (not bit)
    else if list_any (ends_at bit) values then ending_five bit
    else if list_all (ends_at (not bit)) values then ending_five (not bit) else XX

-- the parity of the values under the second vector where all of them are known, steady where all pins are
abbrev pub parity_five : List Five → Five
parity_five values =
    if list_all is_known_steady values then steady_five (parity (map (ends_at true) values))
    else if list_all has_last values then ending_five (parity (map (ends_at true) values)) else XX

-- what an operation makes of the values of all pins
abbrev pub joined_five : Op → List Five → Five
joined_five And values = controlled false values
joined_five Or values = controlled true values
joined_five Xor values = parity_five values

-- inversion swaps the digits
abbrev pub inverted : Five → Five
inverted S0 = S1
inverted S1 = S0
inverted U0 = U1
inverted U1 = U0
inverted XX = XX

-- a gate's function of the values at its pins
abbrev pub gate_five : GateKind → List Five → Five
gate_five kind values =
    if is_inverting kind then inverted (joined_five (op_of kind) values) else joined_five (op_of kind) values

-- the value that a list has for a line
abbrev pub five_at : List Five → ℕ → Five
five_at values line = slice_index_or values line XX

-- the value of a line where the sources have these
abbrev pub five_value : Circuit → List Five → ℕ → Five
five_value c partial line = value_of c (five_at partial) (λ gate values. gate_five (kind_at c gate) values) line
