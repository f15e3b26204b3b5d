-- The sets with which a scope begins: what is launched at its source, and forward from there what gates make of the sets of their pins'
-- lines. The words are spoken inside this crate alone (this project's own).
use Rattle.std.specs.Prelude.{◌≡◌, ℕ, ◌<◌, ◌↔◌, List, [], length, map, Option, IfNone, IfSome, All, Contains}
use Rattle.pd_base.specs.declared.fault.Kind.{Kind}
use Rattle.pd_base.specs.declared.ids.LineId.{LineId}
use Rattle.pd_base.specs.declared.rules.Rules.{Rules}
use Rattle.netlist.specs.declared.kind.GateKind.{GateKind}
use Rattle.netlist.specs.Circuit.{Circuit, source_count, gate_count, gate_line, line_count, kind_at, pins_at}
use Rattle.state_sets.specs.declared.state.State.{State}
use Rattle.state_sets.specs.declared.state.StateSet.{StateSet}
use Rattle.state_sets.specs.States.{Has, AreWithin}
use Rattle.state_sets.specs.StateAlgebra.{StateAlgebra}
use Rattle.state_sets.specs.Labellings.{label_at}
use Rattle.state_sets.specs.Narrowing.{IsChoice, gate_state}
use Rattle.state_sets.specs.Starts.{MayStart}
use Rattle.state_sets.specs.Hulls.{IsHull, IsEmptied, HasNoEmptySet}
use Rattle.state_laws.specs.Cones.{IsLineIn, IsNarrowingIn}
use Rattle.state_laws.specs.Forward.{AreReached}
use Rattle.hulls.specs.Awaiting.{is_inside}
use Rattle.hulls.specs.Boards.{OnBoard}
use Rattle.implication.specs.declared.assumption.Beginning.{Beginning}

-- a gate of this kind has the state of some choice out of the sets
pub record IsMadeOf (a : StateAlgebra) (kind : GateKind) (sets : List StateSet) (state : State) : Type 0 where
  pub choice : List State
  pub each : IsChoice a.count sets choice
  pub makes : gate_state a kind choice ≡ state

-- the set has exactly these states
abbrev pub IsImage : StateAlgebra → GateKind → List StateSet → StateSet → Type 0
IsImage a kind sets set = (state : State) → Has a.count set state ↔ IsMadeOf a kind sets state

-- A line begins with this set: a source with what is launched, and the line of a gate with what the gate makes of the sets of its pins'
-- lines.
pub record HasBegunWith (a : StateAlgebra) (c : Circuit) (launched : StateSet) (labels : List StateSet) (line : ℕ) (set : StateSet)
    : Type 0 where
  pub source : line < source_count c → set ≡ launched
  pub gate : (gate : ℕ) → gate < gate_count c → line ≡ gate_line c gate
      → IsImage a (kind_at c gate) (map (λ pin. label_at labels pin.0) (pins_at c gate)) set

-- Each of these lines has the set with which it begins. The others have what they had.
pub record AreBegun (a : StateAlgebra) (c : Circuit) (launched : StateSet) (lines : List LineId) (old new : OnBoard) : Type 0 where
  pub board : new ≡ record old { labels = new.labels }
  pub one_each : length new.labels ≡ length old.labels
  pub within : AreWithin a.count new.labels
  pub each : (line : LineId) → Contains lines line → HasBegunWith a c launched new.labels line.0 (label_at new.labels line.0)
  pub same : (line : LineId) → ¬ Contains lines line → label_at new.labels line.0 ≡ label_at old.labels line.0

-- A scope has begun forward from a source with the states that launch its transition: the lines that it reaches, all of them inside,
-- have begun.
pub record IsBegunFrom (a : StateAlgebra) (c : Circuit) (source : ℕ) (launched : StateSet) (lines : List LineId) (old new : OnBoard)
    : Type 0 where
  pub reached : AreReached c (is_inside old.inside) source lines
  pub all_inside : All (λ line. IsLineIn c (is_inside old.inside) line.0) lines
  pub begun : AreBegun a c launched lines old new

-- What a beginning finds: the labels are the hull of the start by the narrowings inside, and each line has some state; or no state is left
-- at this line.
pub record IsStartFound (a : StateAlgebra) (c : Circuit) (rules : Rules) (begun : Beginning) (board : OnBoard) (kind : Kind)
    (labels : List StateSet) (answer : Option LineId) : Type 0 where
  pub hull : IfNone answer (IsHull a c (IsNarrowingIn c (is_inside board.inside) board.links kind [])
      (MayStart a c rules begun.source.0 begun.direction) labels)
  pub none_empty : IfNone answer (HasNoEmptySet c labels)
  pub emptied : IfSome answer (λ line. (line.0 < line_count c)
      × IsEmptied a c (IsNarrowingIn c (is_inside board.inside) board.links kind []) (MayStart a c rules begun.source.0 begun.direction) line.0)
