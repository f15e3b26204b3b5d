-- The state of a line under a pair of vectors, for any kind of states (this project's own).
use Rattle.std.specs.Prelude.{ℕ}
use Rattle.pd_base.specs.Pair.{Vectors}
use Rattle.netlist.specs.Circuit.{Circuit}
use Rattle.netlist.specs.Values.{value}
use Rattle.netlist.specs.Steadiness.{is_steady}
use Rattle.state_sets.specs.declared.state.State.{State}
use Rattle.state_sets.specs.StateAlgebra.{StateAlgebra}

-- steady or not, with the values under both vectors
abbrev pub state_under : StateAlgebra → Circuit → Vectors → ℕ → State
state_under a c pair line = a.of (is_steady c pair line) (value c pair.first line) (value c pair.second line)
