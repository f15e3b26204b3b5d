-- The line of one gate more is written.
use Rattle.std.proofs.Common.{arith}
use Rattle.std.proofs.lemmas.Grind.{common_steps}
use Rattle.bench_reader.proofs.text.push_gates.Goals as goal

pub loop-gate-preserved : goal.loop-gate-preserved
loop-gate-preserved c = grind (arith, common_steps)
