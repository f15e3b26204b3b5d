-- What a set of states means: which states it has (this project's own).
use Rattle.std.specs.Prelude.{ℕ, ◌^◌, ◌↔◌, Bool, List, slice_index_or, bit_or, if◌then◌else◌}
use Rattle.state_sets.specs.declared.state.State.{State}
use Rattle.state_sets.specs.declared.state.StateSet.{StateSet}
use Rattle.state_sets.specs.States.{Has, no_states}

-- the set has exactly the states of which this is true
abbrev pub Means : ℕ → StateSet → (State → Type 0) → Type 0
Means count set Q = (state : State) → Has count set state ↔ Q state

-- the set with a state more, or as it is
abbrev pub with_if : StateSet → State → Bool → StateSet
with_if set state added = if added then record { 0 = bit_or set.0 (2 ^ state.0) } else set

-- the set at a place of a list
abbrev pub set_at : List StateSet → ℕ → StateSet
set_at sets place = slice_index_or sets place no_states
