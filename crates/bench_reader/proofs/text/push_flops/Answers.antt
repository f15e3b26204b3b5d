-- The line of one flip-flop more is written.
use Rattle.std.proofs.Common.{arith}
use Rattle.std.proofs.lemmas.Grind.{common_steps}
use Rattle.bench_reader.proofs.text.push_flops.Goals as goal

pub loop-flop-preserved : goal.loop-flop-preserved
loop-flop-preserved c = grind (arith, common_steps)
