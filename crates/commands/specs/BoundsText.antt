-- What `bounds` prints: for each fault of a report, in its order, the number of the listed path, the transition at its source, and the least
-- time at which a test that covers it passed, or a dash where none did (this project's own).
use Rattle.std.specs.Prelude.{ℕ, zero, suc, ◌+◌, List, [], ◌++◌, codes, decimal, length, Option, None, Some, slice_index_or}
use Rattle.pd_base.specs.declared.fault.Direction.{Direction}
use Rattle.pd_base.specs.declared.fault.Direction.TheVariants.{Rise, Fall}
use Rattle.runs.specs.declared.run.ListedPath.{ListedPath}
use Rattle.test_grade.specs.Serving.{fault_place}
use Rattle.text_pieces.specs.Tokens.{after_space, direction_word, line}

-- the word for a bound
abbrev pub bound_word : Option ℕ → List ℕ
bound_word None = codes "-"
bound_word (Some time) = decimal time

-- the line of a fault of the path of this number
abbrev pub bound_line : ℕ → Direction → Option ℕ → List ℕ
bound_line number direction bound =
    line (decimal number ++ after_space (direction_word direction) ++ after_space (bound_word bound))

-- the line of the fault with this direction of the path at this place, counted from 0
abbrev pub fault_line : List (Option ℕ) → ℕ → Direction → List ℕ
fault_line bounds place direction = bound_line (place + 1) direction (slice_index_or bounds (fault_place place direction) None)

-- the lines of the first so many paths, two for each
abbrev pub lines_of_first : List (Option ℕ) → ℕ → List ℕ
lines_of_first bounds zero = []
lines_of_first bounds (suc paths) = lines_of_first bounds paths ++ fault_line bounds paths Rise ++ fault_line bounds paths Fall

-- the whole text
abbrev pub bounds_text : List ListedPath → List (Option ℕ) → List ℕ
bounds_text paths bounds = lines_of_first bounds (length paths)
