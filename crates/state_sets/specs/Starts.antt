-- What lines may be in at the start of a search for a pair: a transition is launched at the path's source, and the rules say how the
-- other sources may start (this project's own).
use Rattle.std.specs.Prelude.{◌≡◌, ◌≢◌, ⊤, ℕ, ◌<◌, ◌≤◌, Bool, true, false}
use Rattle.pd_base.specs.declared.fault.Direction.{Direction}
use Rattle.pd_base.specs.declared.rules.Rules.{Rules}
use Rattle.pd_base.specs.declared.rules.Rules.TheVariants.{One, Two, Linked}
use Rattle.netlist.specs.Circuit.{Circuit, source_count}
use Rattle.netlist.specs.Conditions.{final_bit}
use Rattle.state_sets.specs.declared.state.State.{State}
use Rattle.state_sets.specs.declared.state.StateSet.{StateSet}
use Rattle.state_sets.specs.States.{Has}
use Rattle.state_sets.specs.StateAlgebra.{StateAlgebra}

-- a source in this state launches the transition: it is not steady, and its last value is that of the direction
pub record IsLaunching (a : StateAlgebra) (direction : Direction) (state : State) : Type 0 where
  pub moves : a.steady state ≡ false
  pub ends : a.last state ≡ final_bit direction

-- a source that is not the path's may start in every state of a source, or, where the rules hold such sources steady, in the steady ones
abbrev pub IsOtherStart : StateAlgebra → Rules → State → Type 0
IsOtherStart a One state = ⊤
IsOtherStart a Two state = a.steady state ≡ true
IsOtherStart a (Linked links) state = ⊤

-- what a line may be in at the start: the path's source launches the transition, the other sources are as the rules leave them, all in
-- states of a source, and the line of a gate may be in every state
pub record MayStart (a : StateAlgebra) (c : Circuit) (rules : Rules) (source : ℕ) (direction : Direction) (line : ℕ) (state : State)
    : Type 0 where
  pub is_source : line < source_count c → Has a.count a.sources state
  pub own : line ≡ source → IsLaunching a direction state
  pub other : line < source_count c → line ≢ source → IsOtherStart a rules state

-- the state is that of the least number in the set
pub record IsLeast (count : ℕ) (set : StateSet) (state : State) : Type 0 where
  pub has : Has count set state
  pub least : (other : State) → Has count set other → state.0 ≤ other.0
