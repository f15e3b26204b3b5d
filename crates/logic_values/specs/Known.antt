-- What lists of the program's values, by line number, say of lines (this project's own).
use Rattle.std.specs.Prelude.{ℕ, ◌<◌, Bool, true, false, List, length, slice_index_or, Option, Some, None, All}
use Rattle.pd_base.specs.declared.ids.LineId.{LineId}
use Rattle.logic_values.specs.declared.steadiness.Steady.{Steady}
use Rattle.logic_values.specs.declared.steadiness.Steady.TheVariants.{Zero, One, Moving}

-- the value of a line that is steady, and nothing where it is not
abbrev pub known : Steady → Option Bool
known Zero = Some false
known One = Some true
known Moving = None

-- the value that this list has for a line
abbrev pub bit_at : List Bool → ℕ → Bool
bit_at values line = slice_index_or values line false

-- the value at which this list says that a line is steady, if it does
abbrev pub known_at : List Steady → ℕ → Option Bool
known_at values line = known (slice_index_or values line Zero)

-- the list has a place for each of these lines
abbrev pub HasPlaces : {V : Type 0} → List V → List LineId → Type 0
HasPlaces values lines = All (λ line. line.0 < length values) lines
