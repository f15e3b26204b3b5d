-- By which lines a trial failed: spoken of inside this crate alone (this project's own).
use Rattle.std.specs.Prelude.{◌≡◌, ℕ, ◌<◌, List, ◌++◌, All, Contains}
use Rattle.pd_base.specs.Links.{LinkList}
use Rattle.pd_base.specs.Pair.{Vectors}
use Rattle.pd_base.specs.Target.{Target}
use Rattle.pd_base.specs.declared.fault.Kind.{Kind}
use Rattle.pd_base.specs.declared.ids.LineId.{LineId}
use Rattle.pd_base.specs.declared.ids.PinRef.{PinRef}
use Rattle.netlist.specs.Circuit.{Circuit, source_count, gate_count, gate_line, line_count, pins_at}
use Rattle.netlist.specs.Conditions.{SidesAllowed}
use Rattle.netlist.specs.LinkedPairs.{IsSupported}
use Rattle.netlist.specs.Paths.{end_of}
use Rattle.netlist.specs.declared.op.Op.{Op}
use Rattle.state_sets.specs.declared.state.State.{State}
use Rattle.state_sets.specs.declared.state.StateSet.{StateSet}
use Rattle.state_sets.specs.LineStates.{state_under}
use Rattle.state_sets.specs.StateAlgebra.{StateAlgebra}
use Rattle.state_laws.specs.FailedTrials.{FailsTrial}
use Rattle.cones.specs.FoundLines.{FoundSet}
use Rattle.pair_judging.specs.ConeStates.{state_in}
use Rattle.refutation_check.specs.declared.blaming.Failure.{Failure}

-- the line is in its state under the pair
abbrev pub IsAsIn : StateAlgebra → Circuit → List State → Vectors → ℕ → Type 0
IsAsIn a c states pair line = state_under a c pair line ≡ state_in states line

-- under each pair under which those of these lines that are sources are in their states the trial fails, whatever the labels are
abbrev pub FailsBy : StateAlgebra → Circuit → LinkList → Target → List State → List LineId → Type 0
FailsBy a c links target states lines = (labels : List StateSet) (pair : Vectors)
    → ((source : ℕ) → source < source_count c → Contains lines (record { 0 = source }) → IsAsIn a c states pair source)
    → FailsTrial a c links target labels pair

-- and they are lines of the support of the path's end
pub record IsBlamed (a : StateAlgebra) (c : Circuit) (links : LinkList) (target : Target) (states : List State) (lines : List LineId) : Type 0 where
  pub supported : (line : ℕ) → Contains lines (record { 0 = line }) → IsSupported c links (end_of c target.path) line
  pub fails : FailsBy a c links target states lines

-- under each pair under which these two lines of the circuit are in their states the trial fails, whatever the labels are
pub record IsFailure (a : StateAlgebra) (c : Circuit) (links : LinkList) (target : Target) (states : List State) (failure : Failure) : Type 0 where
  pub first : failure.first.0 < line_count c
  pub second : failure.second.0 < line_count c
  pub fails : (labels : List StateSet) (pair : Vectors) → IsAsIn a c states pair failure.first.0 → IsAsIn a c states pair failure.second.0
      → FailsTrial a c links target labels pair

-- under each such pair, the sides of a step from this line are not as is asked
pub record FailsStep (a : StateAlgebra) (c : Circuit) (kind : Kind) (states : List State) (line : ℕ) (step : PinRef) (failure : Failure) : Type 0 where
  pub first : failure.first.0 < line_count c
  pub second : failure.second.0 < line_count c
  pub fails : (pair : Vectors) → IsAsIn a c states pair failure.first.0 → IsAsIn a c states pair failure.second.0
      → ¬ SidesAllowed c kind pair line step

-- an operation makes this state of it and each other one
abbrev pub Absorbs : StateAlgebra → Op → State → Type 0
Absorbs a op state = (other : State) → other.0 < a.count → a.join op state other ≡ state

-- this is one of the pins, and its state absorbs the others
pub record IsDeciding (a : StateAlgebra) (op : Op) (states : List State) (pins : List LineId) (pin : LineId) : Type 0 where
  pub among : Contains pins pin
  pub absorbs : Absorbs a op (state_in states pin.0)

-- if the line is one of a gate, it is in its state under each pair under which those of these lines are that the gate reads
abbrev pub RestsOn : StateAlgebra → Circuit → List State → ℕ → List LineId → Type 0
RestsOn a c states line lines = (gate : ℕ) → gate < gate_count c → line ≡ gate_line c gate → (pair : Vectors)
    → All (λ pin. Contains lines pin → IsAsIn a c states pair pin.0) (pins_at c gate) → IsAsIn a c states pair line

-- lines on which the state of a line rests are found, behind the others
pub record TracesMore (a : StateAlgebra) (c : Circuit) (states : List State) (line : ℕ) (old new : FoundSet) : Type 0 where
  pub more : List LineId
  pub behind : new.lines ≡ old.lines ++ more
  pub rests : RestsOn a c states line new.lines
