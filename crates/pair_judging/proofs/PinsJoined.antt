-- What a gate makes of the values at its pins: its operation joins them, and an inverting gate makes the other value of that.
use Rattle.std.proofs.Common.{◌≡◌, Bool, true, false, not, List, [], ◌∷◌, length, refl, ap, ◌∙◌, arith}
use Rattle.std.specs.Bool.{beq}
use Rattle.netlist.specs.declared.kind.GateKind.{GateKind}
use Rattle.netlist.specs.declared.kind.GateKind.TheVariants.{And, Nand, Or, Nor, Xor, Xnor, Not, Buff}
use Rattle.netlist.specs.declared.op.Op.{Op}
use Rattle.netlist.specs.declared.op.Op.TheVariants as ops
use Rattle.netlist.specs.Gates.{op_of, is_inverting}
use Rattle.netlist.specs.Lawful.{IsFanIn}
use Rattle.netlist.specs.Values.{gate_value, all_true, any_true, parity, only_value}

-- what an operation makes of bits
abbrev pub bits_joined : Op → List Bool → Bool
bits_joined ops.And bits = all_true bits
bits_joined ops.Or bits = any_true bits
bits_joined ops.Xor bits = parity bits

-- AND of one bit is that bit
all_of_one : (bits : List Bool) → length bits ≡ 1 → all_true bits ≡ only_value bits
all_of_one [] one = absurd (omega (arith, one))
all_of_one (bit ∷ []) one = lone bit
  where
    lone : (bit : Bool) → all_true (bit ∷ []) ≡ bit
    lone true = refl
    lone false = refl
all_of_one (bit ∷ other ∷ bits) one = absurd (omega (arith, one))

-- bits that differ from 0 and from 1
from_zero : (bit : Bool) → not (beq bit false) ≡ bit
from_zero true = refl
from_zero false = refl

from_one : (bit : Bool) → not (beq bit true) ≡ not bit
from_one true = refl
from_one false = refl

-- a gate's function is the join, inverted or not
pub value_joined : (kind : GateKind) (bits : List Bool) → IsFanIn kind (length bits)
    → not (beq (bits_joined (op_of kind) bits) (is_inverting kind)) ≡ gate_value kind bits
value_joined And bits few = from_zero (all_true bits)
value_joined Nand bits few = from_one (all_true bits)
value_joined Or bits few = from_zero (any_true bits)
value_joined Nor bits few = from_one (any_true bits)
value_joined Xor bits few = from_zero (parity bits)
value_joined Xnor bits few = from_one (parity bits)
value_joined Not bits one = from_one (all_true bits) ∙ ap not (all_of_one bits one)
value_joined Buff bits one = from_zero (all_true bits) ∙ all_of_one bits one
