-- The head and the key of the arc alone are new.
use Rattle.std.proofs.Common.{arith}
use Rattle.std.proofs.lemmas.Grind.{common_steps}
use Rattle.path_lister.proofs.lists.NodeLists.set_head.Goals as goal

pub returns : goal.returns
returns c = grind (arith, common_steps)
