-- Texts of decimal digits.
use Rattle.std.specs.Prelude.{◌≡◌, ℕ, List}
use Rattle.std.specs.Str.Parse.{AllDigits, digits_value}

-- each byte is a digit
abbrev pub AreDigits : List ℕ → Type 0
AreDigits text = AllDigits 10 text

-- the bytes are digits, and spell this number
pub record AreDigitsOf (text : List ℕ) (number : ℕ) : Type 0 where
  pub digits : AreDigits text
  pub value : digits_value 10 text ≡ number
