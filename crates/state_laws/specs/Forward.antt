-- Labels that are computed forward from the sources, and the lines that are reached from one of these (this project's own).
use Rattle.std.specs.Prelude.{◌≡◌, ℕ, ◌<◌, ◌≤◌, ◌⊎◌, Bool, true, false, List, [], map, slice_get, Some, All, Contains}
use Rattle.pd_base.specs.declared.fault.Kind.{Kind}
use Rattle.pd_base.specs.declared.ids.LineId.{LineId}
use Rattle.netlist.specs.Circuit.{Circuit, source_count, gate_count, gate_line, kind_at, pins_at}
use Rattle.state_sets.specs.declared.state.State.{State}
use Rattle.state_sets.specs.declared.state.StateSet.{StateSet}
use Rattle.state_sets.specs.States.{Has}
use Rattle.state_sets.specs.StateAlgebra.{StateAlgebra}
use Rattle.state_sets.specs.Labellings.{label_at, IsLabelling}
use Rattle.state_sets.specs.Narrowing.{IsChoice, gate_state}
use Rattle.state_sets.specs.Hulls.{IsAtRest, HasNoEmptySet}
use Rattle.state_laws.specs.Cones.{IsNarrowingIn}

-- Each source has the set of the start, the line of a gate inside has each state that the gate has of choices out of the sets of its
-- pins' lines, and that of a gate outside has every state. No narrowing without a step changes a set, and none is empty.
pub record IsForward (a : StateAlgebra) (c : Circuit) (inside : ℕ → Bool) (start : StateSet) (labels : List StateSet) : Type 0 where
  pub labelling : IsLabelling a.count c labels
  pub sources : (line : ℕ) → line < source_count c → label_at labels line ≡ start
  pub images : (gate : ℕ) → gate < gate_count c → inside gate ≡ true
      → (choice : List State) → IsChoice a.count (map (λ pin. label_at labels pin.0) (pins_at c gate)) choice
      → Has a.count (label_at labels (gate_line c gate)) (gate_state a (kind_at c gate) choice)
  pub outside : (gate : ℕ) → gate < gate_count c → inside gate ≡ false
      → (state : State) → state.0 < a.count → Has a.count (label_at labels (gate_line c gate)) state
  pub rests : (kind : Kind) → IsAtRest a c (IsNarrowingIn c inside [] kind []) labels
  pub none_empty : HasNoEmptySet c labels

-- the lines reached from a source: itself, and the line of each gate inside that reads one of them
pub record AreReached (c : Circuit) (inside : ℕ → Bool) (source : ℕ) (reached : List LineId) : Type 0 where
  pub own : Contains reached (record { 0 = source })
  pub behind : All (λ line. (line.0 ≡ source) ⊎ (source_count c ≤ line.0)) reached
  pub readers : (gate pin : ℕ) (line : LineId) → gate < gate_count c → inside gate ≡ true → slice_get (pins_at c gate) pin ≡ Some line
      → Contains reached line → Contains reached (record { 0 = gate_line c gate })
