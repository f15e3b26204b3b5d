-- The state that is taken of a set (this project's own).
use Rattle.std.specs.Prelude.{ℕ, ◌+◌, ◌<◌}
use Rattle.state_sets.specs.declared.state.State.{State}
use Rattle.state_sets.specs.declared.state.StateSet.{StateSet}
use Rattle.state_sets.specs.States.{Has}

-- of so many states it is the least one of the set, or the last of all where the set has none
pub record IsTakenOf (count : ℕ) (set : StateSet) (state : State) : Type 0 where
  pub in_range : state.0 < count
  pub none_below : (other : State) → other.0 < state.0 → ¬ Has count set other
  pub among : state.0 + 1 < count → Has count set state
