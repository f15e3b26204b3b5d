-- The entry stands last, behind the node's last one.
use Rattle.std.proofs.Common.{arith}
use Rattle.std.proofs.lemmas.Grind.{common_steps}
use Rattle.path_lister.proofs.lists.NodeLists.push.Goals as goal

pub returns-clause-new : goal.returns-clause-new
returns-clause-new c = grind (arith, common_steps)

pub returns-then-place-clause-new : goal.returns-then-place-clause-new
returns-then-place-clause-new c = grind (arith, common_steps)
