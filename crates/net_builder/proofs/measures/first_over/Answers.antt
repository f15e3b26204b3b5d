-- Where no level is over the limit, the greatest is not.
use Rattle.std.proofs.Common.{arith}
use Rattle.netlist.specs.declared.limits.TheConstants.{MOST_LEVELS}
use Rattle.net_builder.proofs.GreatestMore.{greatest_below}
use Rattle.net_builder.proofs.measures.first_over.Goals as goal

pub returns : goal.returns
returns c = greatest_below MOST_LEVELS c.args.levels.now (λ i within. c.loop-line.invariant i (omega arith))
