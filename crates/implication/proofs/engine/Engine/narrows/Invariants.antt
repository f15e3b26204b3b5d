-- No more gates are counted than were passed.
use Rattle.std.proofs.Common.{◌≤◌}
use Rattle.implication.proofs.engine.Engine.narrows.Given as goal

abbrev pub invariant-loop-gate : goal.invariant-loop-gate
invariant-loop-gate g l = l.count ≤ l.gate
