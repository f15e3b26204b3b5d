-- What a word may have as its value: a number in a range, one of some words, or the name of a file (this project's own).
use Rattle.std.specs.Prelude.{ℕ, ◌==◌, ◌&&◌, Bool, true, false, not, leb, List, [], ◌∷◌, length, Option, None, Some, nat_eq, if◌then◌else◌}
use Rattle.std.specs.Cmp.Lexicographic.{pointwise}
use Rattle.std.specs.Str.{all_ascii_digits}
use Rattle.std.specs.Str.Parse.{digits_value}

-- the byte of a hyphen
abbrev pub hyphen : ℕ
hyphen = 45

-- one to so many decimal digits
abbrev pub is_number : ℕ → List ℕ → Bool
is_number most text = all_ascii_digits text && (leb 1 (length text) && leb (length text) most)

-- the number that they spell
abbrev pub number_spelled : ℕ → List ℕ → Option ℕ
number_spelled most text = if is_number most text then Some (digits_value 10 text) else None

-- a number from the least to the greatest
abbrev pub is_within : ℕ → ℕ → Option ℕ → Bool
is_within least greatest None = false
is_within least greatest (Some value) = leb least value && leb value greatest

-- a text that has a first byte, which is no hyphen
abbrev pub is_plain : List ℕ → Bool
is_plain [] = false
is_plain (first ∷ later) = not (first == hyphen)

-- a text that is one of these words
abbrev pub is_among : List (List ℕ) → List ℕ → Bool
is_among [] text = false
is_among (word ∷ words) text = if pointwise nat_eq text word then true else is_among words text

-- what the value of a word may be: a number from the least to the greatest, of at most so many digits; one of these words; or the name
-- of a file
pub data Allowed : Type 0 where
  number : (least greatest digits : ℕ) → Allowed
  one_of : List (List ℕ) → Allowed
  file_name : Allowed

-- A text that may be the value. A word that begins with a hyphen is never one, since it may name an option.
abbrev pub is_allowed : Allowed → List ℕ → Bool
is_allowed (number least greatest digits) text = is_within least greatest (number_spelled digits text)
is_allowed (one_of words) text = is_plain text && is_among words text
is_allowed file_name text = is_plain text

-- the value is the name of a file
abbrev pub is_file_name : Allowed → Bool
is_file_name (number least greatest digits) = false
is_file_name (one_of words) = false
is_file_name file_name = true
