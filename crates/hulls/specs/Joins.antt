-- What choices out of a list of sets join to, and which states they have at a place (this project's own).
use Rattle.std.specs.Prelude.{◌≡◌, ℕ, List, slice_get, Some}
use Rattle.netlist.specs.declared.op.Op.{Op}
use Rattle.state_sets.specs.declared.state.State.{State}
use Rattle.state_sets.specs.declared.state.StateSet.{StateSet}
use Rattle.state_sets.specs.States.{Has}
use Rattle.state_sets.specs.StateAlgebra.{StateAlgebra, joined}
use Rattle.state_sets.specs.Narrowing.{IsChoice}

-- some choice out of the sets joins to this state
pub record Folds (a : StateAlgebra) (op : Op) (sets : List StateSet) (state : State) : Type 0 where
  pub choice : List State
  pub each : IsChoice a.count sets choice
  pub joins : joined a op choice ≡ state

-- some choice out of the sets joins to this state of a target set
pub record FoldsInto (a : StateAlgebra) (op : Op) (sets : List StateSet) (target : StateSet) (state : State) : Type 0 where
  pub folds : Folds a op sets state
  pub hits : Has a.count target state

-- some choice out of the sets that joins into the target has this state at the place
pub record Supports (a : StateAlgebra) (op : Op) (sets : List StateSet) (target : StateSet) (place : ℕ) (state : State) : Type 0 where
  pub choice : List State
  pub each : IsChoice a.count sets choice
  pub hits : Has a.count target (joined a op choice)
  pub here : slice_get choice place ≡ Some state
