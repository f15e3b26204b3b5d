-- How many states labels have left, and that each noted write took some (this project's own).
use Rattle.std.specs.Prelude.{⊤, ℕ, zero, suc, ◌+◌, ◌<◌, List, [], ◌∷◌, sum_by}
use Rattle.std.specs.Int.{bit_at}
use Rattle.state_sets.specs.declared.state.StateSet.{StateSet}
use Rattle.undo_trail.specs.declared.trail.Note.{Note}
use Rattle.undo_trail.specs.Undoing.{undone}

-- how many of the first states a set has
abbrev pub states_in : ℕ → ℕ → ℕ
states_in zero set = 0
states_in (suc state) set = bit_at set state + states_in state set

-- how many states all lines have
abbrev pub states_left : ℕ → List StateSet → ℕ
states_left count labels = sum_by (λ set. states_in count set.0) labels

-- each noted write left fewer states than there were
abbrev pub Falls : ℕ → List (Note StateSet) → List StateSet → Type 0
Falls count [] labels = ⊤
Falls count (note ∷ notes) labels =
    (states_left count (undone notes labels) < states_left count (undone (note ∷ notes) labels)) × Falls count notes labels
