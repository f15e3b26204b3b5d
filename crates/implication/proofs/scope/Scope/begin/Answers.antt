-- The engine tells it.
use Rattle.implication.proofs.scope.Scope.begin.Goals as goal

pub returns-clause-tells : goal.returns-clause-tells
returns-clause-tells g c = record { left_open = c.begin.ensures.open; emptied = c.begin.ensures.emptied }
