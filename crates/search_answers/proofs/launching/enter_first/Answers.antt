-- The engine tells all lines.
use Rattle.implication.specs.Scopes.{standing}
use Rattle.search_answers.proofs.Told.{told_by_all}
use Rattle.search_answers.proofs.launching.enter_first.Goals as goal

pub enter-requires-clause-told : goal.enter-requires-clause-told
enter-requires-clause-told g c = told_by_all (standing c.args.scope.now) _ c.requires.all
