-- The first level that is over the limit (this project's own).
use Rattle.std.specs.Prelude.{ℕ, ◌<◌, ◌≤◌, List, length, slice_index}
use Rattle.netlist.specs.declared.limits.TheConstants.{MOST_LEVELS}

-- the level of this line is over the limit, and none before it is
pub record IsFirstOver (levels : List ℕ) (line : ℕ) : Type 0 where
  pub within : line < length levels
  pub over : MOST_LEVELS < slice_index levels line
  pub first : (earlier : ℕ) → earlier < line → slice_index levels earlier ≤ MOST_LEVELS
