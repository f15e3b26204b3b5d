-- Fields of a delay file: what stands in them without the blanks around it, and the numbers that they spell (this project's
-- own format).
use Rattle.std.specs.Prelude.{◌≡◌, ◌==◌, ◌||◌, ℕ, ◌-◌, ◌<◌, ◌≤◌, Bool, List, length, take, drop, codes}
use Rattle.std.specs.List.{prefix_len, suffix_len}
use Rattle.std.specs.Str.Parse.{AllDigits, digits_value}

-- a space or a tab
abbrev pub is_space_or_tab : ℕ → Bool
is_space_or_tab byte = (byte == 32) || (byte == 9)

-- a text without the blanks at its start
abbrev pub without_first_blanks : List ℕ → List ℕ
without_first_blanks text = drop (prefix_len is_space_or_tab text) text

-- a text without the blanks at its end
abbrev pub without_last_blanks : List ℕ → List ℕ
without_last_blanks text = take (length text - suffix_len is_space_or_tab text) text

-- what stands in a field: its text without the blanks at both ends
abbrev pub trimmed : List ℕ → List ℕ
trimmed field = without_last_blanks (without_first_blanks field)

-- the text that means all
abbrev pub star : List ℕ
star = codes "*"

-- the text is one to so many decimal digits, and spells this number
pub record SpellsNumber (most : ℕ) (text : List ℕ) (number : ℕ) : Type 0 where
  pub some_digit : 0 < length text
  pub few_digits : length text ≤ most
  pub digits : AllDigits 10 text
  pub value : digits_value 10 text ≡ number
