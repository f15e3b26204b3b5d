-- One table for each operation (this project's own).
use Rattle.std.specs.Prelude.{ℕ, List}
use Rattle.netlist.specs.declared.op.Op.{Op}
use Rattle.netlist.specs.declared.op.Op.TheVariants.{And, Or, Xor}

-- the table of an operation, out of those of the three
abbrev pub by_op : List ℕ → List ℕ → List ℕ → Op → List ℕ
by_op and or xor And = and
by_op and or xor Or = or
by_op and or xor Xor = xor
