-- The searches are the same in the calls.
use Rattle.prefix_sensitize.proofs.listing.run_of.Given as goal

abbrev pub ghost-list_paths : goal.ghost-list_paths
ghost-list_paths g a = g.searches

abbrev pub ghost-run_with : goal.ghost-run_with
ghost-run_with g a = g.searches
