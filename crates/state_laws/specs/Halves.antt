-- The halves of a split of the cases at a line (this project's own).
use Rattle.std.specs.Prelude.{◌≡◌, Bool, true, not}
use Rattle.pd_base.specs.Pair.{Vectors}
use Rattle.netlist.specs.Circuit.{Circuit}
use Rattle.state_sets.specs.declared.state.State.{State}
use Rattle.state_sets.specs.StateAlgebra.{StateAlgebra}
use Rattle.state_sets.specs.LineStates.{state_under}
use Rattle.state_laws.specs.declared.split.SplitKind.{SplitKind}
use Rattle.state_laws.specs.declared.split.SplitKind.TheVariants.{LastValue, Steadiness, FirstValue}
use Rattle.state_laws.specs.declared.split.Split.{Split}
use Rattle.state_laws.specs.declared.split.Half.{Half}

-- The state is in the first half of a split or in the second: by its last value, 0 first; by its steadiness, steady first; or by its first
-- value, 0 first. It has a first value where a source that is steady at that value may be linked to a line in this state.
abbrev pub IsInHalf : StateAlgebra → SplitKind → Bool → State → Type 0
IsInHalf a LastValue second state = a.last state ≡ second
IsInHalf a Steadiness second state = a.steady state ≡ not second
IsInHalf a FirstValue second state = a.link (a.of true second second) state ≡ true

-- the first half or the second one of a split
abbrev pub half_of : Split → Bool → Half
half_of split second = record { split = split; second = second }

-- the pair lies in the half: there is the state that the line has under it
abbrev pub LiesInHalf : StateAlgebra → Circuit → Vectors → Half → Type 0
LiesInHalf a c pair half = IsInHalf a half.split.kind half.second (state_under a c pair half.split.line.0)
