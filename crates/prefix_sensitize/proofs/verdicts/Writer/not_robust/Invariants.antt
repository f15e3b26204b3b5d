-- The searches are the same in the call.
use Rattle.prefix_sensitize.proofs.verdicts.Writer.not_robust.Given as goal

abbrev pub ghost-by_pair : goal.ghost-by_pair
ghost-by_pair g a = g.searches
