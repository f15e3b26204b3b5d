use Rattle.std.proofs.Common.{◌<◌, ◌-◌, ◌≤◌, ◌+◌}
use Rattle.state_sets.specs.declared.state.State.{State}
use Rattle.state_sets.specs.States.{Has}
use Rattle.pair_judging.proofs.least_states.least.Given as goal

-- no lesser state is in the set
abbrev pub invariant-loop-number : goal.invariant-loop-number
invariant-loop-number g l = record {
  in_range : l.number + 1 ≤ g.A.Algebra.algebra.count;
  none_below : (other : State) → other.0 < l.number → ¬ Has g.A.Algebra.algebra.count l.fn.set other;
}

abbrev pub decreases-loop-number : goal.decreases-loop-number
decreases-loop-number g l = g.A.Algebra.algebra.count - l.number
