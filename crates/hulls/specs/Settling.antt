-- What cuts and narrowings do to a board (this project's own).
use Rattle.std.specs.Prelude.{◌≡◌, ◌≢◌, ℕ, ◌<◌, ◌≤◌, ◌⊎◌, Bool, true, List, length, slice_set, slice_get, Option, Some, IfSome, MatchOption, All, Contains}
use Rattle.pd_base.specs.Links.{LinkList}
use Rattle.pd_base.specs.declared.ids.GateId.{GateId}
use Rattle.pd_base.specs.declared.ids.LineId.{LineId}
use Rattle.pd_base.specs.declared.ids.PinRef.{PinRef}
use Rattle.pd_base.specs.declared.fault.Kind.{Kind}
use Rattle.netlist.specs.Circuit.{Circuit, gate_count, gate_line, line_count, pins_at}
use Rattle.state_sets.specs.declared.state.StateSet.{StateSet}
use Rattle.state_sets.specs.States.{AreWithin, both_sets, no_states}
use Rattle.state_sets.specs.StateAlgebra.{StateAlgebra}
use Rattle.state_sets.specs.Labellings.{label_at, IsLabelling}
use Rattle.state_sets.specs.Narrowing.{IsNarrowing, IsLinkNarrowing, gate_lines}
use Rattle.state_sets.specs.Hulls.{condition_at, HasNoEmptySet}
use Rattle.state_laws.specs.Cones.{IsNarrowingIn}
use Rattle.state_laws.specs.Sweeps.{KeepsRests}
use Rattle.hulls.specs.Sets.{set_at}
use Rattle.hulls.specs.Changes.{HasPinsKept}
use Rattle.hulls.specs.Conditions.{Entered, IsEnteredOn}
use Rattle.hulls.specs.declared.turn.Turn.{Turn}
use Rattle.hulls.specs.Awaiting.{is_inside, gate_turn}
use Rattle.hulls.specs.Boards.{OnBoard, IsBoardOf, Follows, link_turn}
use Rattle.hulls.specs.Falling.{states_left}
use Rattle.hulls.specs.Links.{link_at, link_lines}

-- each gate inside that has the line among its lines waits, but the one that is passed by
abbrev pub AreWaiting : Circuit → List Bool → Option GateId → ℕ → List Turn → Type 0
AreWaiting c inside passed line waiting =
    (gate : ℕ) → gate < gate_count c → is_inside inside gate ≡ true → passed ≢ Some (record { 0 = gate })
    → Contains (gate_lines c gate) (record { 0 = line }) → Contains waiting (gate_turn gate)

-- each link that has the line among its two waits
abbrev pub AreLinksWaiting : Circuit → LinkList → ℕ → List Turn → Type 0
AreLinksWaiting c links line waiting =
    (link : ℕ) → link < length links → Contains (link_lines links link) (record { 0 = line }) → Contains waiting (link_turn c link)

-- a line lost states, and the gates inside that have it among their lines wait, but the one that is passed by, and so do
-- the links
pub record IsMoved (count : ℕ) (c : Circuit) (passed : Option GateId) (line : ℕ) (old new : OnBoard) : Type 0 where
  pub fewer : states_left count new.labels < states_left count old.labels
  pub waits : AreWaiting c old.inside passed line new.waiting
  pub links_wait : AreLinksWaiting c old.links line new.waiting
  pub few : length new.waiting ≤ length new.inside

-- the set of a line was cut down to another one, which changed the board or did not
pub record IsCutTo (count : ℕ) (c : Circuit) (passed : Option GateId) (line : ℕ) (to : StateSet) (old new : OnBoard) : Type 0 where
  pub labels : new.labels ≡ slice_set old.labels line (both_sets (label_at old.labels line) to)
  pub within : AreWithin count new.labels
  pub inside : new.inside ≡ old.inside
  pub links : new.links ≡ old.links
  pub follows : Follows old new
  pub stays : (turn : Turn) → Contains old.waiting turn → Contains new.waiting turn
  pub moves : (new ≡ old) ⊎ IsMoved count c passed line old new

-- the narrowing at a gate does not change the labels
abbrev pub RestsAt : StateAlgebra → Circuit → Kind → List PinRef → List StateSet → ℕ → Type 0
RestsAt a c kind steps labels gate = IsNarrowing a c gate (condition_at kind steps gate) labels labels

-- nor does the narrowing along a link
abbrev pub RestsAlong : StateAlgebra → LinkList → List StateSet → ℕ → Type 0
RestsAlong a links labels link = IsLinkNarrowing a (link_at links link).0.0 (link_at links link).1.0 labels labels

-- each gate inside waits, or rests, and so does each link
pub record IsAwake (a : StateAlgebra) (c : Circuit) (kind : Kind) (steps : List PinRef) (board : OnBoard) : Type 0 where
  pub gates : (gate : ℕ) → gate < gate_count c → is_inside board.inside gate ≡ true
      → Contains board.waiting (gate_turn gate) ⊎ RestsAt a c kind steps board.labels gate
  pub links : (link : ℕ) → link < length board.links
      → Contains board.waiting (link_turn c link) ⊎ RestsAlong a board.links board.labels link

-- each gate inside and each link but the one of this number waits, or rests
pub record IsAwakeBut (a : StateAlgebra) (c : Circuit) (kind : Kind) (steps : List PinRef) (but : ℕ) (board : OnBoard) : Type 0 where
  pub gates : (gate : ℕ) → gate < gate_count c → is_inside board.inside gate ≡ true → gate ≢ but
      → Contains board.waiting (gate_turn gate) ⊎ RestsAt a c kind steps board.labels gate
  pub links : (link : ℕ) → link < length board.links → (link_turn c link).0 ≢ but
      → Contains board.waiting (link_turn c link) ⊎ RestsAlong a board.links board.labels link

-- what a board is settled from: a labelling in which each line has some state, and each gate inside waits, or rests
pub record MaySettle (a : StateAlgebra) (c : Circuit) (kind : Kind) (steps : List PinRef) (board : OnBoard) : Type 0 where
  pub of : IsBoardOf c board
  pub labelling : IsLabelling a.count c board.labels
  pub some : HasNoEmptySet c board.labels
  pub awake : IsAwake a c kind steps board

-- what a gate inside is narrowed from: each line has some state, and each other gate inside and each link waits, or rests
pub record MayNarrow (a : StateAlgebra) (c : Circuit) (on : Entered) (gate : ℕ) (board : OnBoard) : Type 0 where
  pub of : IsBoardOf c board
  pub within : AreWithin a.count board.labels
  pub some : HasNoEmptySet c board.labels
  pub conditions : IsEnteredOn c on
  pub in_circuit : gate < gate_count c
  pub inside : is_inside board.inside gate ≡ true
  pub awake : IsAwakeBut a c on.kind on.steps gate board

-- no two of these lines are the same
abbrev pub AllDiffer : List LineId → Type 0
AllDiffer lines = (place other : ℕ) (line : LineId) → slice_get lines place ≡ Some line → slice_get lines other ≡ Some line → place ≡ other

-- a gate that is passed by is this one, and its pins read different lines
abbrev pub IsPassed : Circuit → ℕ → Option GateId → Type 0
IsPassed c gate passed = IfSome passed (λ other. (other.0 ≡ gate) × AllDiffer (pins_at c gate))

-- a line has the same set in both
abbrev pub IsSameAt : List StateSet → List StateSet → LineId → Type 0
IsSameAt old new line = label_at new line.0 ≡ label_at old line.0

-- Gates and links that waited wait, and so does each link and each gate inside one of whose lines has changed, but the gate that is
-- passed by.
pub record Wakes (c : Circuit) (passed : Option GateId) (old new : OnBoard) : Type 0 where
  pub stays : (turn : Turn) → Contains old.waiting turn → Contains new.waiting turn
  pub woken : (gate : ℕ) → gate < gate_count c → is_inside old.inside gate ≡ true → passed ≢ Some (record { 0 = gate })
      → Contains new.waiting (gate_turn gate) ⊎ All (IsSameAt old.labels new.labels) (gate_lines c gate)
  pub links_woken : (link : ℕ) → link < length old.links
      → Contains new.waiting (link_turn c link) ⊎ All (IsSameAt old.labels new.labels) (link_lines old.links link)

-- states were lost, and no more gates wait than there are
pub record HasLess (count : ℕ) (old new : OnBoard) : Type 0 where
  pub fewer : states_left count new.labels < states_left count old.labels
  pub few : length new.waiting ≤ length new.inside

-- some lines were cut
pub record IsShrunk (count : ℕ) (c : Circuit) (passed : Option GateId) (old new : OnBoard) : Type 0 where
  pub lines : length new.labels ≡ length old.labels
  pub within : AreWithin count new.labels
  pub inside : new.inside ≡ old.inside
  pub links : new.links ≡ old.links
  pub follows : Follows old new
  pub wakes : Wakes c passed old new
  pub falls : (new ≡ old) ⊎ HasLess count old new

-- the line of each pin of a gate keeps all its states where it is cut down to what is kept at the pin, and so does the gate's own line
pub record KeepsAll (c : Circuit) (gate : ℕ) (kept : List StateSet) (given : StateSet) (labels : List StateSet) : Type 0 where
  pub pins : (pin : ℕ) (line : LineId) → slice_get (pins_at c gate) pin ≡ Some line
      → both_sets (label_at labels line.0) (set_at kept pin) ≡ label_at labels line.0
  pub own : both_sets (label_at labels (gate_line c gate)) given ≡ label_at labels (gate_line c gate)

-- the lines of the first pins of a gate were cut down to what is kept at the pins
pub record ArePinsCut (count : ℕ) (c : Circuit) (passed : Option GateId) (gate : ℕ) (kept : List StateSet) (pins : ℕ)
    (old new : OnBoard) : Type 0 where
  pub labels : HasPinsKept count (pins_at c gate) kept pins old.labels new.labels
  pub shrunk : IsShrunk count c passed old new

-- the lines of the first pins were cut, and each line has some state left
pub record HasCutsWithStates (count : ℕ) (c : Circuit) (passed : Option GateId) (gate : ℕ) (kept : List StateSet) (pins : ℕ)
    (old new : OnBoard) : Type 0 where
  pub cut : ArePinsCut count c passed gate kept pins old new
  pub some : HasNoEmptySet c new.labels

-- the lines of some number of first pins were cut, and this line has no state left
pub record IsPinEmptied (count : ℕ) (c : Circuit) (passed : Option GateId) (gate : ℕ) (kept : List StateSet) (old new : OnBoard)
    (line : ℕ) : Type 0 where
  pub pins : ℕ
  pub few : pins ≤ length (pins_at c gate)
  pub cut : ArePinsCut count c passed gate kept pins old new
  pub in_circuit : line < line_count c
  pub none : label_at new.labels line ≡ no_states

-- How cuts at the first pins of a gate end: where no line was emptied, the lines of all of these pins were cut and each line has some state
-- left; else the line that was emptied has none, after cuts at some number of first pins.
abbrev pub EndsCuts : ℕ → Circuit → Option GateId → ℕ → List StateSet → ℕ → OnBoard → OnBoard → Option LineId → Type 0
EndsCuts count c passed gate kept pins old new emptied =
    MatchOption emptied (HasCutsWithStates count c passed gate kept pins old new)
    (λ line. IsPinEmptied count c passed gate kept old new line.0)

-- labels were narrowed at gates inside, and each labelling at rest there that lies in the old ones lies in the new
pub record IsNarrowed (a : StateAlgebra) (c : Circuit) (kind : Kind) (steps : List PinRef) (old new : OnBoard) : Type 0 where
  pub keeps : KeepsRests a c (IsNarrowingIn c (is_inside old.inside) old.links kind steps) old.labels new.labels
  pub inside : new.inside ≡ old.inside
  pub links : new.links ≡ old.links
  pub follows : Follows old new

-- a narrowing at a gate left each line some state
pub record IsTurn (a : StateAlgebra) (c : Circuit) (kind : Kind) (steps : List PinRef) (old new : OnBoard) : Type 0 where
  pub narrowed : IsNarrowed a c kind steps old new
  pub awake : IsAwake a c kind steps new
  pub some : HasNoEmptySet c new.labels
  pub falls : (new ≡ old) ⊎ HasLess a.count old new

-- it left no state at this line
pub record IsConflict (a : StateAlgebra) (c : Circuit) (kind : Kind) (steps : List PinRef) (old new : OnBoard) (line : ℕ) : Type 0 where
  pub narrowed : IsNarrowed a c kind steps old new
  pub in_circuit : line < line_count c
  pub none : label_at new.labels line ≡ no_states

-- it left each line some state, or else no state at the line that was emptied
abbrev pub EndsTurn : StateAlgebra → Circuit → Entered → OnBoard → OnBoard → Option LineId → Type 0
EndsTurn a c on old new emptied =
    MatchOption emptied (IsTurn a c on.kind on.steps old new) (λ line. IsConflict a c on.kind on.steps old new line.0)
