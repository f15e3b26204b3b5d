-- Of which states each of the five values is the set, and which pairs of vectors they hold for (this project's own).
use Rattle.std.specs.Prelude.{ℕ, ◌+◌, ◌^◌, ◌<◌, List, length}
use Rattle.pd_base.specs.Pair.{Vectors}
use Rattle.netlist.specs.Circuit.{Circuit}
use Rattle.state_sets.specs.declared.state.StateSet.{StateSet}
use Rattle.state_sets.specs.States.{Has, all_states}
use Rattle.state_sets.specs.FourStates.{four_states}
use Rattle.state_sets.specs.LineStates.{state_under}
use Rattle.five_valued.specs.declared.five.Five.{Five}
use Rattle.five_valued.specs.declared.five.Five.TheVariants.{S0, S1, U0, U1, XX}
use Rattle.five_valued.specs.FiveValues.{five_at}

-- the states of a value, of the four: 0 and 1 are steady at 0 and at 1, 2 and 3 are not steady and end at 0 and at 1
abbrev pub states_of : Five → StateSet
states_of S0 = record { 0 = 2 ^ 0 }
states_of S1 = record { 0 = 2 ^ 1 }
states_of U0 = record { 0 = 2 ^ 0 + 2 ^ 2 }
states_of U1 = record { 0 = 2 ^ 1 + 2 ^ 3 }
states_of XX = all_states 4

-- under the pair each of the first lines, one for each of these values, is in a state of its value
abbrev pub HasStatesOf : Circuit → Vectors → List Five → Type 0
HasStatesOf c pair values =
    (line : ℕ) → line < length values → Has 4 (states_of (five_at values line)) (state_under four_states c pair line)
