-- Texts of decimal digits, read from the left.
use Rattle.std.proofs.Common.{◌≡◌, ℕ, ◌+◌, ◌*◌, ◌<◌, ◌≤◌, List, [], ◌∷◌, zero, suc, take, length, get_or, arith, length-take}
use Rattle.std.specs.Char.{digit_value}
use Rattle.std.specs.Str.Parse.{AllDigits, digits_value}
use Rattle.std.proofs.lemmas.Int.Digits.{digits_more, digits_value_more}
use Rattle.std.proofs.lemmas.Str.Parse.{IsNumeralModel, digits_value_short, numerals_by_value, tells_digits}
use Rattle.delay_annotation.specs.Fields.{SpellsNumber}

-- std's words for numerals, as a model of themselves
numerals : IsNumeralModel (AllDigits 10) (digits_value 10)
numerals = numerals_by_value (AllDigits 10) tells_digits

-- each byte of a numeral is a digit
digit_at : (text : List ℕ) (i : ℕ) → AllDigits 10 text → i < length text → digit_value (get_or text i 0) < 10
digit_at [] i digits within = absurd (omega arith)
digit_at (byte ∷ text) zero digits within = digits.0
digit_at (byte ∷ text) (suc i) digits within = digit_at text i digits.1 (omega arith)

-- so a text with another byte is no number
pub no_number : (most : ℕ) (text : List ℕ) (i : ℕ) → i < length text → ¬ (digit_value (get_or text i 0) < 10)
    → (number : ℕ) → ¬ SpellsNumber most text number
no_number most text i within other number is = other (digit_at text i is.digits within)

-- nine digits spell less than a thousand million
pub nine_digits : (text : List ℕ) (i : ℕ) → i ≤ 9 → AllDigits 10 (take i text) → digits_value 10 (take i text) < 1000000000
nine_digits text i few digits = digits_value_short numerals (take i text) 9 digits (omega (arith, length-take i text))

-- a number of at most nine digits is below that, too
pub short_number : (most : ℕ) (text : List ℕ) (number : ℕ) → most ≤ 9 → SpellsNumber most text number → number < 1000000000
short_number most text number few is =
    let below = digits_value_short numerals text 9 is.digits (let short = is.few_digits in omega arith) in
    let value = is.value in omega arith

-- one digit more is read
pub next_digit : (text : List ℕ) (i number digit : ℕ) → i < length text → AllDigits 10 (take i text)
    → number ≡ digits_value 10 (take i text) → digit_value (get_or text i 0) < 10 → digit ≡ digit_value (get_or text i 0)
    → record { digits : AllDigits 10 (take (i + 1) text); value : number * 10 + digit ≡ digits_value 10 (take (i + 1) text) }
next_digit text i number digit within digits value is same = record {
  digits = digits_more 10 text i within digits is;
  value = omega (arith, digits_value_more 10 text i within);
}
