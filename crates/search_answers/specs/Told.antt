-- Marks on lines that are told (this project's own).
use Rattle.std.specs.Prelude.{◌≡◌, ℕ, Bool, true, false, List, slice_index_or}
use Rattle.implication.specs.Standing.{Standing, IsTold}

-- each marked line is told
abbrev pub AreMarkedTold : Standing → List Bool → Type 0
AreMarkedTold standing marks = (line : ℕ) → slice_index_or marks line false ≡ true → IsTold standing line
