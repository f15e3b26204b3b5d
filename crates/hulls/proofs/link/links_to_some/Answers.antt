-- Each turn tries one state.
use Rattle.std.proofs.Common.{arith}
use Rattle.std.proofs.lemmas.Grind.{common_steps}
use Rattle.hulls.proofs.link.links_to_some.Goals as goal

pub loop-number-preserved : goal.loop-number-preserved
loop-number-preserved g c = grind (arith, common_steps)

pub returns : goal.returns
returns g c = grind (arith, common_steps)

pub returns-then-link : goal.returns-then-link
returns-then-link g c = grind (arith, common_steps)
