-- There is some state, since operations have units.
use Rattle.std.proofs.Common.{arith}
use Rattle.netlist.specs.declared.op.Op.TheVariants.{Xor}
use Rattle.pair_judging.proofs.least_states.least.Goals as goal

pub overflow_sub-last : goal.overflow_sub-last
overflow_sub-last g c = omega (arith, g.met.A.Algebra.laws.unit_within Xor, c.count_states-last.ensures.count)

pub loop-number-init : goal.loop-number-init
loop-number-init g c = record {
  in_range = omega (arith, g.met.A.Algebra.laws.unit_within Xor);
  none_below = λ other lower has. absurd (omega (arith, lower));
}
