-- Names with what they are sorted by: the first bytes as one number, the name, and the number of its line (this project's own).
use Rattle.std.specs.Prelude.{◌≡◌, ℕ, zero, suc, ◌+◌, ◌*◌, List, [], map, drop, slice_index, slice_index_or}
use Rattle.std.specs.Borrow.{Bor}
use Rattle.pd_base.specs.declared.ids.LineId.{LineId}

-- the number that so many bytes of a name spell, to the base 256, behind a number that others have spelled; a byte past its end is 0
abbrev pub spelled_from : ℕ → ℕ → List ℕ → ℕ
spelled_from number zero name = number
spelled_from number (suc count) name = spelled_from (number * 256 + slice_index name 0) count (drop 1 name)

-- the first eight bytes of a name as a number: a lesser name has no greater one
abbrev pub first_bytes : List ℕ → ℕ
first_bytes name = spelled_from 0 8 name

-- the name is that of the line of this number, and its first bytes are these
pub record IsNamed (names : List (List ℕ)) (entry : ℕ × Bor (List ℕ) × ℕ) : Type 0 where
  pub first : entry.0 ≡ first_bytes entry.1.now
  pub name : entry.1.now ≡ slice_index_or names entry.2 []

-- the lines alone, in the same order
abbrev pub lines_in : List (ℕ × Bor (List ℕ) × ℕ) → List LineId
lines_in named = map (λ entry. record { 0 = entry.2 }) named
