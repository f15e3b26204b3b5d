-- The labels of a board while no scope is open, and the lines at which the scope that is open began with others. The words are spoken
-- inside this crate alone (this project's own).
use Rattle.std.specs.Prelude.{◌≡◌, ◌≢◌, ℕ, ◌<◌, ◌⊎◌, ◌↔◌, List, [], length, replicate, Contains}
use Rattle.pd_base.specs.declared.ids.LineId.{LineId}
use Rattle.pd_base.specs.declared.rules.Rules.{Rules}
use Rattle.netlist.specs.Circuit.{Circuit, gate_count, line_count}
use Rattle.state_sets.specs.declared.state.State.{State}
use Rattle.state_sets.specs.declared.state.StateSet.{StateSet}
use Rattle.state_sets.specs.States.{Has, no_states, all_states}
use Rattle.state_sets.specs.StateAlgebra.{StateAlgebra}
use Rattle.state_sets.specs.Starts.{IsOtherStart}
use Rattle.state_sets.specs.Labellings.{label_at}
use Rattle.state_laws.specs.Cones.{IsClosedBack}
use Rattle.state_laws.specs.Forward.{IsForward}
use Rattle.undo_trail.specs.Undoing.{undone}
use Rattle.hulls.specs.Awaiting.{is_inside}
use Rattle.hulls.specs.Boards.{OnBoard, IsBoardOf}

-- the labels while no scope is open, and the lines reached from the source of the scope that is
pub record Idling : Type 0 where
  pub labels : List StateSet
  pub reached : List LineId

-- the set has the states of a source in which one that is not the path's may start
abbrev pub HasOtherStarts : StateAlgebra → Rules → StateSet → Type 0
HasOtherStarts a rules set = (state : State) → state.0 < a.count → (IsOtherStart a rules state × Has a.count a.sources state) ↔ Has a.count set state

-- there is no such state
abbrev pub StartsNowhere : StateAlgebra → Rules → Type 0
StartsNowhere a rules = (state : State) → state.0 < a.count → ¬ (IsOtherStart a rules state × Has a.count a.sources state)

-- sources have this set while no scope is open: the states in which they may start, or some where they may start in none
pub record IsIdleSet (a : StateAlgebra) (rules : Rules) (set : StateSet) : Type 0 where
  pub some : set ≢ no_states
  pub starts : HasOtherStarts a rules set ⊎ StartsNowhere a rules

-- The idle labels are those computed forward from sources in such a set. A board whose changes are undone has them at each line that
-- is not reached.
pub record StandsBy (a : StateAlgebra) (c : Circuit) (rules : Rules) (idling : Idling) (board : OnBoard) : Type 0 where
  pub of : IsBoardOf c board
  pub closed : IsClosedBack c (is_inside board.inside)
  pub start : StateSet
  pub is_start : IsIdleSet a rules start
  pub forward : IsForward a c (is_inside board.inside) start idling.labels
  pub same : (line : LineId) → ¬ Contains idling.reached line
      → label_at (undone board.notes board.labels) line.0 ≡ label_at idling.labels line.0

-- while no scope is open none is reached, no change is noted, and no gate waits
pub record IsIdleBoard (a : StateAlgebra) (c : Circuit) (rules : Rules) (idling : Idling) (board : OnBoard) : Type 0 where
  pub stands : StandsBy a c rules idling board
  pub unnoted : board.notes ≡ []
  pub at_rest : board.waiting ≡ []
  pub nothing_reached : idling.reached ≡ []

-- a board as it is made, of gates inside that have with each those whose lines it reads
pub record IsNewBoard (count : ℕ) (c : Circuit) (board : OnBoard) : Type 0 where
  pub labels : board.labels ≡ replicate (line_count c) (all_states count)
  pub unnoted : board.notes ≡ []
  pub gates : length board.inside ≡ gate_count c
  pub unlinked : board.links ≡ []
  pub closed : IsClosedBack c (is_inside board.inside)

-- the same gates are inside, there are as many labels, and no gate waits
pub record IsLeftAtRest (old new : OnBoard) : Type 0 where
  pub inside : new.inside ≡ old.inside
  pub links : new.links ≡ old.links
  pub lines : length new.labels ≡ length old.labels
  pub at_rest : new.waiting ≡ []
