-- What a board is: labels, the notes of their changes, and the gates and links that wait (this project's own).
use Rattle.std.specs.Prelude.{◌≡◌, ℕ, ◌≤◌, ◌<◌, ◌+◌, ◌*◌, ◌^◌, ◌++◌, Bool, true, List, length, All}
use Rattle.pd_base.specs.Links.{LinkList}
use Rattle.netlist.specs.Circuit.{Circuit, line_count, gate_count}
use Rattle.netlist.specs.LinkedPairs.{AreLinksOf}
use Rattle.state_sets.specs.declared.state.StateSet.{StateSet}
use Rattle.state_sets.specs.States.{AreWithin}
use Rattle.undo_trail.specs.declared.trail.Note.{Note}
use Rattle.undo_trail.specs.Undoing.{undone}
use Rattle.hulls.specs.declared.turn.Turn.{Turn}
use Rattle.hulls.specs.Awaiting.{is_inside}
use Rattle.hulls.specs.Falling.{Falls}

-- The sets of all lines; the notes of their changes; the gates and links that wait, in their order, links being numbered on behind the
-- gates; for each of these whether it is inside; and the links.
pub record OnBoard : Type 0 where
  pub labels : List StateSet
  pub notes : List (Note StateSet)
  pub waiting : List Turn
  pub inside : List Bool
  pub links : LinkList

-- the turn of a link has the link's number behind those of all gates
abbrev pub link_turn : Circuit → ℕ → Turn
link_turn c link = record { 0 = gate_count c + link }

-- what is true of every board
pub record IsBoard (count : ℕ) (board : OnBoard) (room : ℕ) : Type 0 where
  pub within : AreWithin count board.labels
  pub olds : All (λ note. note.old.0 < 2 ^ count) board.notes
  pub on_lines : All (λ note. note.index < length board.labels) board.notes
  pub falls : Falls count board.notes board.labels
  pub enough : length board.labels * count ≤ room
  pub few : length board.waiting ≤ length board.inside

-- the board is one of this circuit
pub record IsBoardOf (c : Circuit) (board : OnBoard) : Type 0 where
  pub lines : length board.labels ≡ line_count c
  pub gates : length board.inside ≡ gate_count c + length board.links
  pub few : length board.inside < 2 ^ 32
  pub links : AreLinksOf c board.links
  pub links_inside : (link : ℕ) → link < length board.links → is_inside board.inside (link_turn c link).0 ≡ true

-- the new board has more notes, and undoing these leads its labels back to the old ones
pub record Follows (old new : OnBoard) : Type 0 where
  pub more : List (Note StateSet)
  pub notes : new.notes ≡ old.notes ++ more
  pub back : undone more new.labels ≡ old.labels
