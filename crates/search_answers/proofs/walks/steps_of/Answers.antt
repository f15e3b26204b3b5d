-- The paths are the first ones for the number that was asked for.
use Rattle.search_answers.proofs.walks.steps_of.Goals as goal

pub sensitize_all-requires-clause-first : goal.sensitize_all-requires-clause-first
sensitize_all-requires-clause-first c = record { count = c.args.count; few = c.requires.count; are_first = c.in_ok-paths.ensures }
