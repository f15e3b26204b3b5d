-- Sets of states, one bit a state (this project's own).
use Rattle.std.specs.Prelude.{◌≡◌, ℕ, ◌-◌, ◌<◌, ◌^◌, List, All, bit_and}
use Rattle.std.specs.Int.{bit_at}
use Rattle.state_sets.specs.declared.state.State.{State}
use Rattle.state_sets.specs.declared.state.StateSet.{StateSet}

-- the state is one of so many, and in the set: its bit is 1
pub record Has (count : ℕ) (set : StateSet) (state : State) : Type 0 where
  pub in_range : state.0 < count
  pub bit : bit_at set.0 state.0 ≡ 1

-- the set with no state
abbrev pub no_states : StateSet
no_states = record { 0 = 0 }

-- the set of all of so many states
abbrev pub all_states : ℕ → StateSet
all_states count = record { 0 = 2 ^ count - 1 }

-- the set holds states below this number alone
abbrev pub IsWithin : ℕ → StateSet → Type 0
IsWithin count set = set.0 < 2 ^ count

-- all of these sets do
abbrev pub AreWithin : ℕ → List StateSet → Type 0
AreWithin count sets = All (λ set. set.0 < 2 ^ count) sets

-- the states of both sets
abbrev pub both_sets : StateSet → StateSet → StateSet
both_sets a b = record { 0 = bit_and a.0 b.0 }
