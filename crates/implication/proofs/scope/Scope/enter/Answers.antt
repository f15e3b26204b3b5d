-- The engine tells it.
use Rattle.implication.proofs.scope.Scope.enter.Goals as goal

pub returns-clause-tells : goal.returns-clause-tells
returns-clause-tells g c = record {
  held = c.enter.ensures.held;
  idle = c.enter.ensures.idle;
  ok = c.enter.ensures.ok;
  err = c.enter.ensures.err;
  left_open = c.enter.ensures.open;
  emptied = c.enter.ensures.emptied;
}
