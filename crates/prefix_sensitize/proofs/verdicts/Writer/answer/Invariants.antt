-- The searches are the same in the call.
use Rattle.prefix_sensitize.proofs.verdicts.Writer.answer.Given as goal

abbrev pub ghost-not_robust : goal.ghost-not_robust
ghost-not_robust g a = g.searches
