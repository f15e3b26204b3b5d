-- What cutting sets does to a labelling (this project's own).
use Rattle.std.specs.Prelude.{◌≡◌, ℕ, ◌<◌, ◌≤◌, Bool, true, false, List, length, slice_get, Some, ◌↔◌}
use Rattle.pd_base.specs.declared.ids.LineId.{LineId}
use Rattle.state_sets.specs.declared.state.State.{State}
use Rattle.state_sets.specs.declared.state.StateSet.{StateSet}
use Rattle.state_sets.specs.States.{Has}
use Rattle.state_sets.specs.Labellings.{label_at}
use Rattle.hulls.specs.Sets.{set_at}

-- The sets only lost states, as numbers, and the answer tells whether one did.
pub record Lessens (old new : List StateSet) (changed : Bool) : Type 0 where
  pub one_each : length new ≡ length old
  pub falls : (line : ℕ) → (label_at new line).0 ≤ (label_at old line).0
  pub same : changed ≡ false → new ≡ old
  pub lower : changed ≡ true → (line : ℕ) × ((label_at new line).0 < (label_at old line).0)

-- each line has what it had and what each pin on it keeps, of so many pins
abbrev pub HasPinsKept : ℕ → List LineId → List StateSet → ℕ → List StateSet → List StateSet → Type 0
HasPinsKept count pins kept bound old new =
    (line : ℕ) (state : State) → Has count (label_at new line) state
    ↔ (Has count (label_at old line) state
    × ((pin : ℕ) → pin < bound → slice_get pins pin ≡ Some (record { 0 = line }) → Has count (set_at kept pin) state))
