-- Turns in a queue, first in, first out (this project's own).
use Rattle.std.specs.Prelude.{ℕ, ◌<◌, ◌≤◌, List, length}
use Rattle.hulls.specs.declared.turn.Turn.{Turn}

-- the turns in their order, and how many there is room for
pub record Queued : Type 0 where
  pub turns : List Turn
  pub room : ℕ

-- the first list is read from a place on, and is full where the second has turns; and both have the room
pub record IsQueue (front back : List Turn) (at front_capacity back_capacity room : ℕ) : Type 0 where
  pub inside : at ≤ length front
  pub full : 0 < length back → room ≤ length front
  pub front_room : room ≤ front_capacity
  pub back_room : room ≤ back_capacity
