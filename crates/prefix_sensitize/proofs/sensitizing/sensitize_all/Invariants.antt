-- The searches are those of the paths that are given.
use Rattle.prefix_sensitize.specs.Searches.{searches_of}
use Rattle.prefix_sensitize.proofs.sensitizing.sensitize_all.Given as goal

abbrev pub ghost-run_of : goal.ghost-run_of
ghost-run_of g a = searches_of a.rules a.outcomes.budget a.paths.items a.outcomes
