-- A labelling gives each line a set of states (this project's own).
use Rattle.std.specs.Prelude.{◌≡◌, ◌≢◌, ℕ, ◌<◌, ◌^◌, List, slice_index_or, length, All, Contains}
use Rattle.pd_base.specs.declared.ids.LineId.{LineId}
use Rattle.netlist.specs.Circuit.{Circuit, line_count}
use Rattle.state_sets.specs.declared.state.State.{State}
use Rattle.state_sets.specs.declared.state.StateSet.{StateSet}
use Rattle.state_sets.specs.declared.narrowed.Narrowed.{Narrowed}
use Rattle.state_sets.specs.declared.narrowed.Narrowed.TheVariants.{Same, Shrunk, Empty}
use Rattle.state_sets.specs.States.{Has, no_states}

-- the set of a line
abbrev pub label_at : List StateSet → ℕ → StateSet
label_at labels line = slice_index_or labels line no_states

-- a labelling of the lines of a circuit: one set of states below the count for each line
pub record IsLabelling (count : ℕ) (c : Circuit) (labels : List StateSet) : Type 0 where
  pub one_each : length labels ≡ line_count c
  pub within : All (λ set. set.0 < 2 ^ count) labels

-- each state that a line may have by the first labelling it may have by the second
abbrev pub LiesIn : ℕ → List StateSet → List StateSet → Type 0
LiesIn count inner outer = (line : ℕ) (state : State) → Has count (label_at inner line) state → Has count (label_at outer line) state

-- each of these lines has its state in its set
abbrev pub HasStates : ℕ → List StateSet → (ℕ → State) → List LineId → Type 0
HasStates count labels states lines = All (λ line. Has count (label_at labels line.0) (states line.0)) lines

-- What a narrowing answers, read on the lines that it looks at: nothing changed, or something did, and each line has some
-- state left; or no state is left at this line.
abbrev pub TellsOfNarrowing : List LineId → List StateSet → List StateSet → Narrowed → Type 0
TellsOfNarrowing lines old new Same = (new ≡ old) × All (λ line. label_at new line.0 ≢ no_states) lines
TellsOfNarrowing lines old new Shrunk = (new ≢ old) × All (λ line. label_at new line.0 ≢ no_states) lines
TellsOfNarrowing lines old new (Empty line) = Contains lines line × (label_at new line.0 ≡ no_states)
