-- The searches are the same in the calls.
use Rattle.prefix_sensitize.proofs.listing.list_path.Given as goal

abbrev pub ghost-answer : goal.ghost-answer
ghost-answer g a = g.searches
