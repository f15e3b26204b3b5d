-- The end of one pin more is listed.
use Rattle.std.proofs.Common.{arith}
use Rattle.std.proofs.lemmas.Grind.{common_steps}
use Rattle.path_lister.proofs.arcs.arc_ends.Goals as goal

pub loop-pin-preserved : goal.loop-pin-preserved
loop-pin-preserved c = grind (arith, common_steps)

pub loop-pin-init : goal.loop-pin-init
loop-pin-init c = grind (arith, common_steps)

pub returns : goal.returns
returns c = grind (arith, common_steps)
