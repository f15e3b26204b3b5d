-- What is left of the states of all lines when narrowings are repeated until nothing changes: a hull (this project's own).
use Rattle.std.specs.Prelude.{◌≡◌, ◌≢◌, ℕ, ◌<◌, ◌==◌, List, [], ◌∷◌, Option, Some, None, if◌then◌else◌}
use Rattle.pd_base.specs.Links.{LinkList, IsLink}
use Rattle.pd_base.specs.declared.ids.PinRef.{PinRef}
use Rattle.pd_base.specs.declared.fault.Kind.{Kind}
use Rattle.netlist.specs.Circuit.{Circuit, gate_count, line_count}
use Rattle.state_sets.specs.declared.state.State.{State}
use Rattle.state_sets.specs.declared.state.StateSet.{StateSet}
use Rattle.state_sets.specs.declared.condition.Condition.{Condition}
use Rattle.state_sets.specs.States.{Has, no_states}
use Rattle.state_sets.specs.StateAlgebra.{StateAlgebra}
use Rattle.state_sets.specs.Labellings.{label_at, IsLabelling, LiesIn}
use Rattle.state_sets.specs.Narrowing.{IsNarrowing, IsLinkNarrowing}

-- a narrowing: at a gate, with the condition of a step through it or without; or along a link, from a source to a line
pub data Narrowing : Type 0 where
  at_gate : ℕ → Option Condition → Narrowing
  along_link : ℕ → ℕ → Narrowing

-- the new labels are this narrowing of the old ones
abbrev pub Narrows : StateAlgebra → Circuit → Narrowing → List StateSet → List StateSet → Type 0
Narrows a c (at_gate gate condition) old new = IsNarrowing a c gate condition old new
Narrows a c (along_link source line) old new = IsLinkNarrowing a source line old new

-- the condition of the step through a gate, if one of these steps goes through it
abbrev pub condition_at : Kind → List PinRef → ℕ → Option Condition
condition_at kind [] gate = None
condition_at kind (step ∷ steps) gate =
    if step.gate.0 == gate then Some (record { pin = step.pin; kind = kind }) else condition_at kind steps gate

-- The narrowings of a circuit with these links under the conditions of these steps: one at each gate, under the condition of the step
-- through it if there is one, and one along each link.
abbrev pub IsNarrowingOf : Circuit → LinkList → Kind → List PinRef → Narrowing → Type 0
IsNarrowingOf c links kind steps (at_gate gate condition) = (gate < gate_count c) × (condition ≡ condition_at kind steps gate)
IsNarrowingOf c links kind steps (along_link source line) = IsLink links source line

-- a labelling is at rest if none of these narrowings changes it
abbrev pub IsAtRest : StateAlgebra → Circuit → (Narrowing → Type 0) → List StateSet → Type 0
IsAtRest a c Narrowings labels = (narrowing : Narrowing) → Narrowings narrowing → Narrows a c narrowing labels labels

-- each line has only states that it may be in
abbrev pub IsAmong : ℕ → (ℕ → State → Type 0) → List StateSet → Type 0
IsAmong count May labels = (line : ℕ) (state : State) → Has count (label_at labels line) state → May line state

-- the states that lines have by a labelling
abbrev pub HasAt : ℕ → List StateSet → ℕ → State → Type 0
HasAt count labels line state = Has count (label_at labels line) state

-- a labelling at rest in which each line has only states that it may be in
pub record IsRestAmong (a : StateAlgebra) (c : Circuit) (Narrowings : Narrowing → Type 0) (May : ℕ → State → Type 0)
    (labels : List StateSet) : Type 0 where
  pub labelling : IsLabelling a.count c labels
  pub rest : IsAtRest a c Narrowings labels
  pub among : IsAmong a.count May labels

-- the hull: the greatest labelling at rest in which each line has only states that it may be in
pub record IsHull (a : StateAlgebra) (c : Circuit) (Narrowings : Narrowing → Type 0) (May : ℕ → State → Type 0)
    (hull : List StateSet) : Type 0 where
  pub rest : IsRestAmong a c Narrowings May hull
  pub greatest : (other : List StateSet) → IsRestAmong a c Narrowings May other → LiesIn a.count other hull

-- each line of the circuit has some state
abbrev pub HasNoEmptySet : Circuit → List StateSet → Type 0
HasNoEmptySet c labels = (line : ℕ) → line < line_count c → label_at labels line ≢ no_states

-- a line is emptied: no labelling at rest, in which each line has only states that it may be in, has a state there; so neither
-- has the hull
abbrev pub IsEmptied : StateAlgebra → Circuit → (Narrowing → Type 0) → (ℕ → State → Type 0) → ℕ → Type 0
IsEmptied a c Narrowings May line =
    (labels : List StateSet) → IsRestAmong a c Narrowings May labels → label_at labels line ≡ no_states

-- what lines may be in closes if some line is emptied
pub record Closes (a : StateAlgebra) (c : Circuit) (Narrowings : Narrowing → Type 0) (May : ℕ → State → Type 0) : Type 0 where
  pub line : ℕ
  pub in_circuit : line < line_count c
  pub emptied : IsEmptied a c Narrowings May line
