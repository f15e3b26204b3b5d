-- Kinds of states that tell the first value of a line, so that states that may be linked are those of values that are linked (this
-- project's own).
use Rattle.std.specs.Prelude.{◌≡◌, Bool, true}
use Rattle.state_sets.specs.StateAlgebra.{StateAlgebra, MaySteady}

-- a source in one state may be linked to a line in another one only where its last value is the line's first one
abbrev pub TellsFirst : StateAlgebra → Type 0
TellsFirst a = (s f l t g m : Bool) → MaySteady t g m → a.link (a.of s f l) (a.of t g m) ≡ true → l ≡ g
