-- What the kinds of gates have in common: an operation that joins the pins, and an inversion (as in every gate-level simulator).
use Rattle.std.specs.Prelude.{Bool, true, false}
use Rattle.netlist.specs.declared.kind.GateKind.{GateKind}
use Rattle.netlist.specs.declared.kind.GateKind.TheVariants.{And, Nand, Or, Nor, Xor, Xnor, Not, Buff}
use Rattle.netlist.specs.declared.op.Op.{Op}
use Rattle.netlist.specs.declared.op.Op.TheVariants as ops

-- the operation by which a gate joins its pins; that of NOT and BUFF, which have one pin, is AND
abbrev pub op_of : GateKind → Op
op_of And = ops.And
op_of Nand = ops.And
op_of Or = ops.Or
op_of Nor = ops.Or
op_of Xor = ops.Xor
op_of Xnor = ops.Xor
op_of Not = ops.And
op_of Buff = ops.And

-- whether a gate inverts what it joins
abbrev pub is_inverting : GateKind → Bool
is_inverting And = false
is_inverting Nand = true
is_inverting Or = false
is_inverting Nor = true
is_inverting Xor = false
is_inverting Xnor = true
is_inverting Not = true
is_inverting Buff = false
