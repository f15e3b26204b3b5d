use Rattle.std.proofs.Common.{◌≡◌, ◌<◌}
use Rattle.state_sets.specs.declared.state.State.{State}
use Rattle.refutation_check.proofs.blaming.absorbs.Given as goal

-- it is made of the state and each one before this one
abbrev pub invariant-loop-other : goal.invariant-loop-other
invariant-loop-other g l = (state : State) → state.0 < l.other → g.A.Algebra.algebra.join l.op l.state state ≡ l.state
