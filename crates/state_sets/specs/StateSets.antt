-- What operations make of sets of states (this project's own).
use Rattle.std.specs.Prelude.{◌≡◌, ◌<◌, ◌↔◌, Bool}
use Rattle.netlist.specs.declared.op.Op.{Op}
use Rattle.netlist.specs.declared.side_conditions.SideCondition.{SideCondition}
use Rattle.netlist.specs.Conditions.{Allows}
use Rattle.state_sets.specs.declared.state.State.{State}
use Rattle.state_sets.specs.declared.state.StateSet.{StateSet}
use Rattle.state_sets.specs.StateAlgebra.{StateAlgebra}
use Rattle.state_sets.specs.States.{Has}

-- the state is the join of some state of the first set and some state of the second
pub record IsJoin (a : StateAlgebra) (op : Op) (first second : StateSet) (state : State) : Type 0 where
  pub left : State
  pub right : State
  pub in_first : Has a.count first left
  pub in_second : Has a.count second right
  pub joins : a.join op left right ≡ state

-- the set has exactly these joins
abbrev pub AreJoins : StateAlgebra → Op → StateSet → StateSet → StateSet → Type 0
AreJoins a op first second set = (state : State) → Has a.count set state ↔ IsJoin a op first second state

-- the state joins with some state of a set into the target
pub record JoinsInto (a : StateAlgebra) (op : Op) (rest target : StateSet) (state : State) : Type 0 where
  pub other : State
  pub in_rest : Has a.count rest other
  pub hits : Has a.count target (a.join op state other)

-- the set has exactly the states that join with some state of the rest into the target
abbrev pub AreSupporting : StateAlgebra → Op → StateSet → StateSet → StateSet → Type 0
AreSupporting a op rest target set = (state : State) → Has a.count set state ↔ ((state.0 < a.count) × JoinsInto a op rest target state)

-- the second set has exactly the states whose inversion is in the first one
abbrev pub AreInversions : StateAlgebra → StateSet → StateSet → Type 0
AreInversions a set inverted = (state : State) → Has a.count inverted state ↔ ((state.0 < a.count) × Has a.count set (a.invert state))

-- the set has exactly the states with this last value
abbrev pub AreEndingAt : StateAlgebra → Bool → StateSet → Type 0
AreEndingAt a bit set = (state : State) → Has a.count set state ↔ ((state.0 < a.count) × (a.last state ≡ bit))

-- the set has exactly the states that a condition allows a side pin
abbrev pub AreAllowedBy : StateAlgebra → SideCondition → StateSet → Type 0
AreAllowedBy a condition set = (state : State) → Has a.count set state
    ↔ ((state.0 < a.count) × Allows condition (a.last state) (a.steady state))
