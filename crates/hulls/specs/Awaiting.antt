-- The gates and links that wait to be narrowed, out of those inside a part of a circuit (this project's own).
use Rattle.std.specs.Prelude.{◌≡◌, ℕ, ◌<◌, ◌≤◌, Bool, true, false, not, List, length, sum_by, slice_index_or, All, Contains}
use Rattle.hulls.specs.declared.turn.Turn.{Turn}

-- the turn of a gate has the gate's number
abbrev pub gate_turn : ℕ → Turn
gate_turn gate = record { 0 = gate }

-- whether a gate or link is one of those inside, told by one flag for each
abbrev pub is_inside : List Bool → ℕ → Bool
is_inside inside turn = slice_index_or inside turn false

-- for each gate and link whether it is inside, and those that wait, in their order
pub record Awaited : Type 0 where
  pub inside : List Bool
  pub waiting : List Turn

-- 1 for a flag that is up
abbrev pub one_if : Bool → ℕ
one_if true = 1
one_if false = 0

-- for each gate and link there is a flag, which is up exactly where that gate or link is outside
pub record AreOpposite (inside flags : List Bool) : Type 0 where
  pub one_each : length flags ≡ length inside
  pub opposite : (at : ℕ) → at < length inside → slice_index_or flags at false ≡ not (slice_index_or inside at false)

-- There is one flag for each gate and link. What has its flag down is inside; what is inside with its flag up waits; what waits is inside;
-- no more wait than flags are up; and there is room for all.
pub record IsFlagged (inside flags : List Bool) (waiting : List Turn) (room : ℕ) : Type 0 where
  pub one_each : length flags ≡ length inside
  pub flagged : (turn : ℕ) → is_inside inside turn ≡ true → slice_index_or flags turn false ≡ true → Contains waiting (record { 0 = turn })
  pub down : (turn : ℕ) → turn < length flags → slice_index_or flags turn false ≡ false → is_inside inside turn ≡ true
  pub few : length waiting ≤ sum_by one_if flags
  pub all_inside : All (λ turn. is_inside inside turn.0 ≡ true) waiting
  pub enough : length flags ≤ room

-- more gates and links wait than before, and not more than there are
pub record IsMore (old new : Awaited) : Type 0 where
  pub inside : new.inside ≡ old.inside
  pub stays : (turn : Turn) → Contains old.waiting turn → Contains new.waiting turn
  pub few : length old.waiting ≤ length old.inside → length new.waiting ≤ length new.inside

-- the gate or link of this turn waits if it is inside, and so do those that waited
pub record IsWoken (turn : Turn) (old new : Awaited) : Type 0 where
  pub more : IsMore old new
  pub waits : is_inside old.inside turn.0 ≡ true → Contains new.waiting turn
