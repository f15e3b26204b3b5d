-- Narrowing at one gate, and along a link: which states a labelling keeps there (this project's own).
use Rattle.std.specs.Prelude.{◌≡◌, ◌≢◌, ⊤, ℕ, ◌<◌, Bool, true, false, List, [], ◌∷◌, ◌++◌, map, length, slice_get, slice_index_or, Option, Some, None, IsTrue, ◌↔◌}
use Rattle.pd_base.specs.declared.ids.LineId.{LineId}
use Rattle.netlist.specs.declared.kind.GateKind.{GateKind}
use Rattle.netlist.specs.Circuit.{Circuit, kind_at, pins_at, gate_line}
use Rattle.netlist.specs.Conditions.{side_condition, Allows}
use Rattle.netlist.specs.Gates.{op_of, is_inverting}
use Rattle.state_sets.specs.declared.state.State.{State}
use Rattle.state_sets.specs.declared.state.StateSet.{StateSet}
use Rattle.netlist.specs.declared.op.Op.TheVariants as ops
use Rattle.state_sets.specs.declared.condition.Condition.{Condition}
use Rattle.state_sets.specs.States.{Has}
use Rattle.state_sets.specs.StateAlgebra.{StateAlgebra, joined}
use Rattle.state_sets.specs.Labellings.{label_at, HasStates}

-- a state, inverted or not
abbrev pub inverted_if : StateAlgebra → Bool → State → State
inverted_if a false state = state
inverted_if a true state = a.invert state

-- the state of a gate whose pins have these states
abbrev pub gate_state : StateAlgebra → GateKind → List State → State
gate_state a kind states = inverted_if a (is_inverting kind) (joined a (op_of kind) states)

-- the choice has one state for each of these sets, each out of its set
pub data IsChoice (count : ℕ) : List StateSet → List State → Type 0 where
  none : IsChoice count [] []
  one : {set : StateSet} {state : State} {sets : List StateSet} {states : List State}
      → Has count set state → IsChoice count sets states → IsChoice count (set ∷ sets) (state ∷ states)

-- the state that a choice has at a pin
abbrev pub state_at : StateAlgebra → List State → ℕ → State
state_at a states pin = slice_index_or states pin (a.unit ops.And)

-- the states at the side pins of a step meet the table of conditions, read on states: the last value at the on-path pin picks
-- the row
abbrev pub SidesMeetAt : StateAlgebra → GateKind → Condition → List State → Type 0
SidesMeetAt a kind condition states =
    (pin : ℕ) → pin < length states → pin ≢ condition.pin
    → Allows (side_condition condition.kind kind (a.last (state_at a states condition.pin)))
    (a.last (state_at a states pin)) (a.steady (state_at a states pin))

-- a choice meets the condition of a step, if one is given
abbrev pub MeetsAt : StateAlgebra → GateKind → Option Condition → List State → Type 0
MeetsAt a kind None states = ⊤
MeetsAt a kind (Some condition) states = SidesMeetAt a kind condition states

-- what narrowing looks at: the kind of a gate, the sets of its pins' lines, pin by pin, and the set of its own line
pub record GateSets : Type 0 where
  pub kind : GateKind
  pub pins : List StateSet
  pub own : StateSet

-- what a labelling has there
abbrev pub gate_sets : Circuit → ℕ → List StateSet → GateSets
gate_sets c gate labels = record {
  kind = kind_at c gate;
  pins = map (λ line. label_at labels line.0) (pins_at c gate);
  own = label_at labels (gate_line c gate);
}

-- A choice at a gate is allowed: each pin's state is in its line's set, pin by pin, also for pins on one line; the state that
-- the gate has of them is in the set of the gate's line; and the condition is met.
pub record IsAllowed (a : StateAlgebra) (at : GateSets) (condition : Option Condition) (choice : List State) : Type 0 where
  pub at_pins : IsChoice a.count at.pins choice
  pub at_gate : Has a.count at.own (gate_state a at.kind choice)
  pub meets : MeetsAt a at.kind condition choice

-- some allowed choice gives this state at the gate's line
pub record GivesAtGate (a : StateAlgebra) (at : GateSets) (condition : Option Condition) (state : State) : Type 0 where
  pub choice : List State
  pub allowed : IsAllowed a at condition choice
  pub gives : gate_state a at.kind choice ≡ state

-- some allowed choice has this state at the pin
pub record GivesAtPin (a : StateAlgebra) (at : GateSets) (condition : Option Condition) (pin : ℕ) (state : State) : Type 0 where
  pub choice : List State
  pub allowed : IsAllowed a at condition choice
  pub gives : slice_get choice pin ≡ Some state

-- A state that a line had is kept by the narrowing at a gate: at the gate's own line some allowed choice gives it, and at a line
-- that pins of the gate read, some allowed choice has it at each of these pins.
pub record IsKept (a : StateAlgebra) (c : Circuit) (gate : ℕ) (condition : Option Condition) (labels : List StateSet)
    (line : ℕ) (state : State) : Type 0 where
  pub had : Has a.count (label_at labels line) state
  pub at_gate : line ≡ gate_line c gate → GivesAtGate a (gate_sets c gate labels) condition state
  pub at_pins : (pin : ℕ) → slice_get (pins_at c gate) pin ≡ Some (record { 0 = line })
      → GivesAtPin a (gate_sets c gate labels) condition pin state

-- the new labels are the narrowing of the old ones at a gate: each line has exactly the states that are kept
pub record IsNarrowing (a : StateAlgebra) (c : Circuit) (gate : ℕ) (condition : Option Condition)
    (old new : List StateSet) : Type 0 where
  pub lines : length new ≡ length old
  pub exactly : (line : ℕ) (state : State) → Has a.count (label_at new line) state ↔ IsKept a c gate condition old line state

-- the lines of a gate: those that its pins read, and its own
abbrev pub gate_lines : Circuit → ℕ → List LineId
gate_lines c gate = pins_at c gate ++ (record { 0 = gate_line c gate }) ∷ []

-- these states of the lines agree at a gate: that of its line is the gate's of those at its pins, and the condition is met
pub record AgreesAt (a : StateAlgebra) (c : Circuit) (gate : ℕ) (condition : Option Condition) (states : ℕ → State) : Type 0 where
  pub at_gate : states (gate_line c gate) ≡ gate_state a (kind_at c gate) (map (λ line. states line.0) (pins_at c gate))
  pub meets : MeetsAt a (kind_at c gate) condition (map (λ line. states line.0) (pins_at c gate))

-- A state that a line had is kept by the narrowing along a link: at the source, if the line has a state to which the source may
-- be linked in this one; at the line, if the source has a state in which it may be linked to this one.
pub record IsKeptByLink (a : StateAlgebra) (source line : ℕ) (labels : List StateSet) (at : ℕ) (state : State) : Type 0 where
  pub had : Has a.count (label_at labels at) state
  pub at_source : at ≡ source → (c : State) × Has a.count (label_at labels line) c × IsTrue (a.link state c)
  pub at_line : at ≡ line → (s : State) × Has a.count (label_at labels source) s × IsTrue (a.link s state)

-- the new labels are the narrowing of the old ones along a link
pub record IsLinkNarrowing (a : StateAlgebra) (source line : ℕ) (old new : List StateSet) : Type 0 where
  pub lines : length new ≡ length old
  pub exactly : (at : ℕ) (state : State) → Has a.count (label_at new at) state ↔ IsKeptByLink a source line old at state

-- Narrowing at a gate loses no states that agree there: where the lines of the gate have them, each line that had its own has
-- it still.
abbrev pub KeepsAgreeing : StateAlgebra → Circuit → ℕ → Option Condition → List StateSet → List StateSet → Type 0
KeepsAgreeing a c gate condition old new =
    (states : ℕ → State) → AgreesAt a c gate condition states → HasStates a.count old states (gate_lines c gate)
    → (line : ℕ) → Has a.count (label_at old line) (states line) → Has a.count (label_at new line) (states line)
