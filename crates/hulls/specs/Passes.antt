-- What one pass over the pins of a gate finds: choices out of the sets, within limits at each pin (this project's own).
use Rattle.std.specs.Prelude.{◌≡◌, ℕ, ◌<◌, ◌^◌, Bool, List, length, slice_get, Some}
use Rattle.netlist.specs.declared.kind.GateKind.{GateKind}
use Rattle.netlist.specs.Conditions.{side_condition, Allows}
use Rattle.netlist.specs.declared.op.Op.{Op}
use Rattle.state_sets.specs.declared.state.State.{State}
use Rattle.state_sets.specs.declared.state.StateSet.{StateSet}
use Rattle.state_sets.specs.declared.condition.Condition.{Condition}
use Rattle.state_sets.specs.States.{Has, all_states}
use Rattle.state_sets.specs.StateAlgebra.{StateAlgebra, joined}
use Rattle.state_sets.specs.Narrowing.{IsChoice, state_at}
use Rattle.hulls.specs.declared.limits.Limits.{Limits}
use Rattle.hulls.specs.Sets.{Means}
use Rattle.hulls.specs.Limits.{limit_at}

-- the choice has at each pin a state within the limits there
abbrev pub IsLimited : StateAlgebra → Limits → List State → Type 0
IsLimited a limits choice = (pin : ℕ) → pin < length choice → Has a.count (limit_at limits pin) (state_at a choice pin)

-- some choice within the limits joins to this state of the target
pub record PassFolds (a : StateAlgebra) (op : Op) (limits : Limits) (sets : List StateSet) (target : StateSet)
    (state : State) : Type 0 where
  pub choice : List State
  pub each : IsChoice a.count sets choice
  pub limited : IsLimited a limits choice
  pub joins : joined a op choice ≡ state
  pub hits : Has a.count target state

-- some choice within the limits that joins into the target has this state at the pin
pub record PassSupports (a : StateAlgebra) (op : Op) (limits : Limits) (sets : List StateSet) (target : StateSet) (pin : ℕ)
    (state : State) : Type 0 where
  pub choice : List State
  pub each : IsChoice a.count sets choice
  pub limited : IsLimited a limits choice
  pub hits : Has a.count target (joined a op choice)
  pub here : slice_get choice pin ≡ Some state

-- limits that leave all states
abbrev pub all_limits : ℕ → Limits
all_limits count = record { on_path = 0; at_on_path = all_states count; at_sides = all_states count }

-- the limits of a condition where the on-path pin ends at this bit: the states that do, and the states that the table allows
-- the side pins
pub record AreLimitsOf (a : StateAlgebra) (kind : GateKind) (condition : Condition) (bit : Bool) (limits : Limits) : Type 0 where
  pub on_path : limits.on_path ≡ condition.pin
  pub on_path_within : limits.at_on_path.0 < 2 ^ a.count
  pub sides_within : limits.at_sides.0 < 2 ^ a.count
  pub at_on_path : Means a.count limits.at_on_path (λ s. (s.0 < a.count) × (a.last s ≡ bit))
  pub at_sides : Means a.count limits.at_sides
      (λ s. (s.0 < a.count) × Allows (side_condition condition.kind kind bit) (a.last s) (a.steady s))

-- the states that the condition allows the side pins where the on-path pin ends at this bit
abbrev pub AreSidesOf : StateAlgebra → GateKind → Condition → Bool → StateSet → Type 0
AreSidesOf a kind condition bit sides = Means a.count sides
    (λ s. (s.0 < a.count) × Allows (side_condition condition.kind kind bit) (a.last s) (a.steady s))
