-- Kinds of states that have first values, on which an engine of near gates stands (this project's own).
use Rattle.std.specs.Prelude.{Bool}
use Rattle.state_sets.specs.declared.state.State.{State}
use Rattle.state_sets.specs.StateAlgebra.{StateAlgebra}
use Rattle.state_laws.specs.FirstValues.{FirstLaws}

-- states have first values that keep the laws of them
pub record HasFirstValues (a : StateAlgebra) : Type 0 where
  pub first : State → Bool
  pub laws : FirstLaws a first
