-- The pins of one gate more are counted.
use Rattle.std.proofs.Common.{arith}
use Rattle.std.proofs.lemmas.Grind.{common_steps}
use Rattle.net_builder.proofs.fanouts.count_readers.Goals as goal

pub loop-gate-preserved : goal.loop-gate-preserved
loop-gate-preserved c = grind (arith, common_steps)
