-- States of all lines that are kept from trial to trial, and the gates whose lines are stale: facts of loops, spoken inside this crate
-- alone (this project's own).
use Rattle.std.specs.Prelude.{◌≡◌, ◌≢◌, ℕ, ◌<◌, Bool, true, false, List, length, map, slice_index_or, All}
use Rattle.pd_base.specs.declared.ids.PinRef.{PinRef}
use Rattle.netlist.specs.Circuit.{Circuit, source_count, gate_count, gate_line, kind_at, pins_at}
use Rattle.state_sets.specs.declared.state.State.{State}
use Rattle.state_sets.specs.StateAlgebra.{StateAlgebra}
use Rattle.state_sets.specs.Narrowing.{gate_state}
use Rattle.pair_judging.specs.ConeStates.{state_in, AreLineStates}
use Rattle.refutation_check.specs.declared.trial_states.TrialStates.{TrialStates}

-- the line of this gate is stale: it may be in another state than the gate makes of those of its pins
abbrev pub is_stale : TrialStates → ℕ → Bool
is_stale kept gate = slice_index_or kept.stale.items gate true

-- the line of a gate is stale, or it is in the state that the gate makes of those of its pins
abbrev pub IsStaleOrMade : StateAlgebra → Circuit → TrialStates → ℕ → Type 0
IsStaleOrMade a c kept gate = is_stale kept gate ≡ false
    → state_in kept.states.items (gate_line c gate)
    ≡ gate_state a (kind_at c gate) (map (λ pin. state_in kept.states.items pin.0) (pins_at c gate))

-- there is one of so many states for each line, and each gate may be stale
pub record AreRoomFor (count : ℕ) (c : Circuit) (kept : TrialStates) : Type 0 where
  pub states : AreLineStates count c kept.states.items
  pub stale : length kept.stale.items ≡ gate_count c

-- and the lines of gates that are not stale are in the states that the gates make
pub record AreTrialStates (a : StateAlgebra) (c : Circuit) (kept : TrialStates) : Type 0 where
  pub room : AreRoomFor a.count c kept
  pub made : (gate : ℕ) → gate < gate_count c → IsStaleOrMade a c kept gate

-- a line is in this state now, and each other one as before
pub record IsPutAt (line : ℕ) (state : State) (old new : List State) : Type 0 where
  pub here : state_in new line ≡ state
  pub elsewhere : (other : ℕ) → other ≢ line → state_in new other ≡ state_in old other

-- the gates of these pins are stale, and no others but those that were
pub record AreStaleAsRead (pins : List PinRef) (old new : List Bool) : Type 0 where
  pub places : length new ≡ length old
  pub stale : All (λ pin. slice_index_or new pin.gate.0 true ≡ true) pins
  pub stay : (gate : ℕ) → slice_index_or new gate true ≡ false → slice_index_or old gate true ≡ false
  pub others : (gate : ℕ) → slice_index_or old gate true ≡ false → All (λ pin. pin.gate.0 ≢ gate) pins
      → slice_index_or new gate true ≡ false

-- the sources are in the same states
abbrev pub KeepsSources : Circuit → TrialStates → TrialStates → Type 0
KeepsSources c old new =
    (source : ℕ) → source < source_count c → state_in new.states.items source ≡ state_in old.states.items source
