-- The engine tells it.
use Rattle.implication.proofs.scope.Scope.assume.Goals as goal

pub returns-clause-tells : goal.returns-clause-tells
returns-clause-tells g c = record {
  held = c.assume.ensures.held;
  idle = c.assume.ensures.idle;
  ok = c.assume.ensures.ok;
  err = c.assume.ensures.err;
  left_open = c.assume.ensures.open;
  emptied = c.assume.ensures.emptied;
}
