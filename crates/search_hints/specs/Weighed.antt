-- The weights of lines, and which lines with one are listed. Its words are spoken inside this crate alone (this project's own).
use Rattle.std.specs.Prelude.{◌≡◌, ◌≢◌, ℕ, ◌-◌, ◌/◌, ◌^◌, ◌<◌, ◌≤◌, List, length, slice_index, Contains}
use Rattle.cones.specs.FoundLines.{FoundSet}

-- this line alone may change its weight, which gets no smaller; below the greatest number it gets a greater one
pub record RaisesOne (line : ℕ) (old new : List ℕ) : Type 0 where
  pub room : length new ≡ length old
  pub kept : slice_index old line ≤ slice_index new line
  pub raised : line < length old → slice_index old line < 2 ^ 64 - 1 → slice_index old line < slice_index new line
  pub others : (other : ℕ) → other ≢ line → slice_index new other ≡ slice_index old other

-- each weight is divided by a number
pub record AreDivided (factor : ℕ) (old new : List ℕ) : Type 0 where
  pub room : length new ≡ length old
  pub each : (line : ℕ) → slice_index new line ≡ slice_index old line / factor

-- there is a weight for each line that may be listed, and each line with a weight is listed
pub record AreListed (weights : List ℕ) (listed : FoundSet) : Type 0 where
  pub room : length weights ≡ listed.room
  pub each : (line : ℕ) → 0 < slice_index weights line → Contains listed.lines (record { 0 = line })
